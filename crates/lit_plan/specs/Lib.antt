pub mod Bounds
pub mod Faults
pub mod Plans
pub mod Starts
