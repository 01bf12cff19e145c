pub mod JsonLemmas
pub mod NumberLemmas
pub mod ObjectLemmas
pub mod PlainLemmas
mod UrlLemmas
