pub mod NumberLemmas
pub mod LiteralLemmas
pub mod FrameLemmas
pub mod StreamLemmas
pub mod ReplyLemmas
