-- Where the cursor stands after a field that was read.
pub mod CursorLaws
