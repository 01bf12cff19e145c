pub mod Admitted
pub mod Changeable
pub mod Covered
pub mod SetRows
pub mod Summaries
pub mod Unfound
pub mod Waiting
pub mod Within
