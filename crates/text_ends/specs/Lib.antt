pub mod HitsAt
pub mod HitsAfter
pub mod Walks
