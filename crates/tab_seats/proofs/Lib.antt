mod Sums
mod LogLemmas
mod Turns
mod Fitting
mod Moves
mod Counts
mod Holders
mod Closing
