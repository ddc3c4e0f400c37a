pub mod Pages
pub mod Queries
pub mod QueryOptions
pub mod Tokens
pub mod Scans
pub mod Prefixes
pub mod Continuations
