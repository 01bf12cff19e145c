-- Words of private clauses and of the types' views: no public clause speaks in them.
pub mod Lines
pub mod Reading
pub mod Receiving
pub mod Writing
pub mod Head
pub mod ReplyBytes
pub mod Methods
pub mod Rows
pub mod Spaces
