pub mod MapLemmas
pub mod CloneLemmas
pub mod AnswerLemmas
pub mod MonteCarloLemmas
pub mod CheckpointLemmas
pub mod StandardLemmas
pub mod VerdictTextLemmas
