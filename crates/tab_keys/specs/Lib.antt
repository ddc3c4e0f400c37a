pub mod KeyTexts
pub mod TableNames
pub mod Keys
pub mod Order
pub mod Spans
pub mod TotalOrders
pub mod Results
