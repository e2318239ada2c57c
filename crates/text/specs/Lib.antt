-- What the programs print (document 01, 'A job in full'), as bytes.
pub mod Bytes
pub mod Texts
pub mod Dimacs
pub mod Whole
pub mod Lines
pub mod RunText
pub mod Comments
