pub mod BoundLemmas
pub mod WholeTexts
