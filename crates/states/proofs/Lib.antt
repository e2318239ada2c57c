-- The laws of states in groups.
pub mod GroupLaws
pub mod TurnLaws
pub mod WordLaws
