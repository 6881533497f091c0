pub mod Certificates
pub mod FirstTails
pub mod OnePlan
pub mod Splitting
pub mod Squares
pub mod Tails
