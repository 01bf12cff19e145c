-- Words of private clauses: no public clause speaks in them.
pub mod Climbs
pub mod Looks
