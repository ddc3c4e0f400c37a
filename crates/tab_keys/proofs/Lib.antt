pub mod Units
pub mod BadCharacters
pub mod Names
pub mod Injective
pub mod OrderLaws
pub mod KeyTexts
pub mod ByteOrder
pub mod FirstDifference
