pub mod PrefixLemmas
pub mod QuietLemmas
pub mod ReadLemmas
pub mod OutputLemmas
pub mod OutputListLemmas
