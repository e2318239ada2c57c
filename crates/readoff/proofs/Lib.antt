-- The laws of reading off.
pub mod StandingLaws
pub mod SizeLaws
pub mod AnswerLaws
pub mod FrontLaws
pub mod ReadingLaws
