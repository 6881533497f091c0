pub mod Widths
pub mod PendingEnds
pub mod Factors
