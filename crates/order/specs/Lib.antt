-- Sorting without repeats, and the order of lists from the left.
pub mod Sorting
