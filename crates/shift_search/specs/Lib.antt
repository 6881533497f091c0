pub mod Blocks
pub mod Probes
pub mod ShiftOr
