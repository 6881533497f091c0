pub mod PendingSteps
pub mod HashBitSteps
pub mod FactorLemmas
