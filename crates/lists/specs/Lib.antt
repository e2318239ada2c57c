-- What the definitions of every crate share.
pub mod Rows
pub mod Tests
pub mod Places
pub mod Writing
pub mod Pieces
pub mod Numerals
