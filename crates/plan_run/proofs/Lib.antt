pub mod AnswerLemmas
pub mod EndLemmas
pub mod ListingLemmas
pub mod MigrateLemmas
pub mod PackLemmas
pub mod RequestLemmas
pub mod SpanLemmas
