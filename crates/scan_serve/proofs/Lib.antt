pub mod SendLemmas
pub mod RunLemmas
pub mod WindowLemmas
pub mod TurnLemmas
pub mod ServeLemmas
