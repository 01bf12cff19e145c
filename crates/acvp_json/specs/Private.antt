-- Words of private clauses: no public clause speaks in them.
pub mod Readings
pub mod Borrowed
pub mod Said
pub mod AnswersReading
pub mod Civil
pub mod Placed
pub mod Scan
