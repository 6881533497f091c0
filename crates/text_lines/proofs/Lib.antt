pub mod AfterLines
pub mod Counts
pub mod Crossing
pub mod HitLineLemmas
pub mod LastNewline
pub mod LiteralParts
pub mod NewlineMasks
pub mod Newlines
