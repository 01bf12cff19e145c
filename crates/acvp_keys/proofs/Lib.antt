pub mod ChangingLemmas
pub mod KeysLemmas
pub mod WritingLemmas
