pub mod Certificates
pub mod Certified
pub mod Faults
pub mod Reading
pub mod Spelling
pub mod Steps
