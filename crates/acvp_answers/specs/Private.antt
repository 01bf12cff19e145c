-- Words of private clauses: no public clause speaks in them.
pub mod Ending
