pub mod AskLemmas
pub mod CertificateLemmas
pub mod HexLemmas
pub mod ListLemmas
pub mod MigrateLemmas
pub mod PackLemmas
pub mod PlanAtLemmas
