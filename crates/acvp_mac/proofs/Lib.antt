pub mod HmacLemmas
pub mod CodeLemmas
pub mod AcceptedLemmas
pub mod DigestFacts
pub mod ConditionLemmas
