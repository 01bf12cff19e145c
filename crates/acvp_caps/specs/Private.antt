-- Words of private clauses and of the types' invariants: no public clause speaks in them.
pub mod Walk
pub mod DomainItems
pub mod Kept
pub mod Written
pub mod Readings
