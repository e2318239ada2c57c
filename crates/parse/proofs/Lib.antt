-- The laws of the definitions, by file of the definitions.
pub mod AnswerLaws
pub mod LabelLaws
pub mod LinkFits
pub mod LemmaLaws
pub mod LemmaFits
pub mod FaultLaws
pub mod ReadingLaws
pub mod AcceptedFit
pub mod Examples
pub mod Listing
