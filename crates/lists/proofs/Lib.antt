-- The laws of the shared definitions, by file of the definitions.
pub mod Logic
pub mod RowLaws
pub mod TestLaws
pub mod PlaceLaws
pub mod WritingLaws
pub mod PieceLaws
pub mod NumeralLaws
