-- The laws behind the code of filing.
pub mod SortedLaws
pub mod OrderLaws
pub mod FiledLaws
pub mod LineLaws
pub mod KeptLineLaws
pub mod PartLaws
pub mod FormLaws
pub mod FilingLaws
