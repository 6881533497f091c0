pub mod Appends
pub mod BucketLemmas
pub mod EndingLemmas
pub mod Prices
pub mod Ranges
