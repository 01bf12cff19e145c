pub mod Refusals
pub mod CallerRules
pub mod GrantLemmas
