-- The laws of the definitions, by file of the definitions.
pub mod WordLaws
pub mod NameLaws
pub mod LineLaws
