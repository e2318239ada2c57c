-- The laws that the proofs of several needs cite.
pub mod Signed
pub mod StepLaws
