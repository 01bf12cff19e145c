pub mod Dots
pub mod Places
pub mod Shapes
pub mod Readings
pub mod Verdicts
pub mod Agreement
pub mod RoundTrip
pub use Rattle.acvp_mac.proofs.ConditionLemmas
