pub mod BlockLemmas
pub mod EntryLemmas
pub mod JoiningLemmas
pub mod ShiftOrLemmas
