-- A part put into a lent buffer, and the names of a table.
pub mod Names
pub mod Put
