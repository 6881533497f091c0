pub mod AloneLemmas
pub mod ChainLemmas
pub mod CheckLemmas
pub mod HashBitLemmas
pub mod LongLemmas
pub mod SuffixLemmas
