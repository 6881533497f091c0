pub mod Answers
pub mod Listings
pub mod Messages
pub mod Running
pub mod Spans
pub mod Statuses
pub mod Stops
pub mod Workers
