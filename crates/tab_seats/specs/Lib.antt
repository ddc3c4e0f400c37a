pub mod Lists
pub mod Logs
pub mod Views
pub mod Rule
pub mod Parts
pub mod Offices
