pub mod Replays
pub mod Rewriting
pub mod Contents
pub mod Serving
pub mod ServerCauses
pub mod Acting
pub mod Recovering
