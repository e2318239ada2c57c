-- The laws of the text definitions.
pub mod DigitLaws
pub mod SignLaws
pub mod ToldLaws
pub mod TextsLaws
pub mod WholeLaws
pub mod GroupLaws
pub mod CommentLaws
pub mod CommentLength
pub mod LengthLaws
pub mod AllTexts
pub mod Examples
