pub mod AnyLemmas
pub mod BitLemmas
pub mod BlockLemmas
pub mod EntryLemmas
pub mod FilterLemmas
pub mod LaneLemmas
