-- Bytes, lines, words and names (document 01, 'The job text').
pub mod Bytes
pub mod Lines
pub mod Names
pub mod Iterating
