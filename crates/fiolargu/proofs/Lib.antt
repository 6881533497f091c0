pub mod StatusLemmas
pub mod RefusalLemmas
pub mod NumberLemmas
