-- The laws of a part in front of the rest of its text.
pub mod PartLaws
