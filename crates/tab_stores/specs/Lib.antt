pub mod Counting
pub mod CountLaws
pub mod Strokeless
