-- The laws of the filing form: the filed lemmas, what is written and read, the form read again, and the claims of S-1.
pub mod ResultLaws
pub mod LiteralLaws
pub mod FiledLaws
pub mod RunLaws
pub mod WrittenLaws
pub mod SpellingLaws
pub mod LemmaLineLaws
pub mod LineNumberLaws
pub mod KeptLaws
pub mod ProgramAgainLaws
pub mod Line1Laws
pub mod AcceptedLaws
pub mod FiledLineLaws
pub mod ReadAgainLaws
pub mod OneForm
pub mod Examples
