-- The truth of a clause that is given by its numbers.
pub mod Truth
