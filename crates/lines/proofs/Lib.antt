-- The laws of the definitions, by file of the definitions, and the ranges of what the lines say.
pub mod FirstLineLaws
pub mod ShapeLaws
