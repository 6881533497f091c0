pub mod Bits
pub mod Entries
pub mod Filtered
pub mod Prefixes
pub mod Lanes
pub mod PlacesAfter
pub mod WideTables
