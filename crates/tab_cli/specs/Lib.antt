pub mod Invocations
pub mod Files
