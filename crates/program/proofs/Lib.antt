-- The laws of the definitions, by file of the definitions.
pub mod DraftLaws
pub mod PutLaws
pub mod ProgramLineLaws
pub mod ProgramLaws
pub mod ReachedLaws
pub mod DraftFits
