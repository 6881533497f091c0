pub mod CutDevices
pub mod Devices
pub mod Borrowed
pub mod Readers
pub mod Sources
pub mod Transfers
