-- The laws of what is printed.
pub mod PrintingLaws
pub mod ReadLaws
pub mod RunLength
pub mod ShowLaws
pub mod PieceLaws
