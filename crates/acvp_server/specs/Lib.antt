pub mod Faults
pub mod Fingerprints
