pub mod ByteLemmas
pub mod CoverLemmas
pub mod EndLemmas
pub mod Ranks
