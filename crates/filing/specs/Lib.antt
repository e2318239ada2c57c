-- Filing as a call (document 02, S-1); then what its code speaks of.
pub mod Filing
pub mod Names
pub mod Rows
pub mod Lines
