-- Words of private clauses: no public clause speaks in them.
pub mod Candidates
pub mod Filling
pub mod Generator
