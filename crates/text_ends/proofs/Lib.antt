pub mod Bytes
pub mod EndLemmas
pub mod HitLists
pub mod Occurring
pub mod Stops
