pub mod Answers
pub mod Files
pub mod Found
pub mod Made
