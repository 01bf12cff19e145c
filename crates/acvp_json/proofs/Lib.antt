pub mod EnvelopeLemmas
mod ObjectLemmas
pub mod KeptLemmas
pub mod ReplyLemmas
pub mod UrlLemmas
pub mod AnswersLemmas
pub mod TimeLemmas
mod ScanLemmas
mod ExactLemmas
