pub mod DeviceLemmas
pub mod OpenerLemmas
pub mod SayLemmas
pub mod SourceLemmas
pub mod KnownLemmas
pub mod TransferLemmas
