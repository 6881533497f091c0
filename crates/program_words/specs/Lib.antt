pub mod Faults
pub mod Matches
pub mod Words
