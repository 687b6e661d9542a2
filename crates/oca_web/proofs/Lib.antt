pub mod AdmissionLemmas
pub mod OrderLemmas
pub mod StepLemmas
pub mod BodyLemmas
