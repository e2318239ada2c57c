-- How the code reads a state: from one group of a run's bytes.
pub mod Group
