pub mod Made
pub mod Ascending
