pub mod Scanners
pub mod Boundaries
pub mod Tails
