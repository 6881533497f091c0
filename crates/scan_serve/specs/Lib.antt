pub mod Sending
pub mod Stops
pub mod Answering
pub mod Serving
