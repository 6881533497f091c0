pub mod Candidates
pub mod FilterSet
pub mod Prefixes
pub mod Halves
pub mod Runs
pub mod Tables
