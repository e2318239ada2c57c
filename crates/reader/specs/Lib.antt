-- A text in parts, and what a reader has left of it.
pub mod Parts
pub mod Reader
