-- The table and the answer as a caller in C has them.
pub mod Foreign
