pub mod Faults
pub mod FirstCut
pub mod Plans
pub mod Splits
pub mod Squares
pub mod TailCosts
