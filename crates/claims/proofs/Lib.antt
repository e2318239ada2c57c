-- The claims hold: start at Claims. Calls and Replies are demand 3 about the calls, RunBytes the laws of a run and its bytes.
pub mod RunBytes
pub mod Calls
pub mod Replies
pub mod Printed
pub mod Filed
pub mod Claims
