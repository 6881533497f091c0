pub mod Tickets
pub mod Meetings
pub mod Faults
