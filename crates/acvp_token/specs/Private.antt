-- Definitions that only private clauses cite.
pub mod Splitting
pub mod Opening
pub mod Places
pub mod ClaimsWriting
pub mod ClaimsReading
