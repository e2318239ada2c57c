-- The filing form of a job (document 02, S-1): the lemmas that remain and their order, the text, and what is shown of it.
pub mod Lemmas
pub mod Form
pub mod OneForm
