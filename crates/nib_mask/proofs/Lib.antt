pub mod Buckets
pub mod Fingerprints
pub mod PrefixLemmas
pub mod HalfLemmas
pub mod LawLemmas
pub mod PartLemmas
pub mod Ranges
pub mod TableLemmas
