pub mod WordLemmas
pub mod LengthLemmas
pub mod ChoiceLemmas
pub mod GroupLemmas
