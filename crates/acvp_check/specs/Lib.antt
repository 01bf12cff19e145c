pub mod Conditions
pub mod Near
pub mod Order
pub mod Owners
pub mod Rows
pub mod Whole
