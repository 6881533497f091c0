pub mod Faults
pub mod Feeding
pub mod Emitting
pub mod Matching
pub mod OpenLines
pub mod Picking
pub mod Progresses
pub mod WholeLines
