pub mod Cutting
pub mod HitLines
