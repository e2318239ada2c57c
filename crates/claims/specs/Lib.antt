-- What is claimed of an accepted text: start at Claims. Calls and Replies are demand 3, said of what the calls do.
pub mod Calls
pub mod Replies
pub mod Printed
pub mod Filed
pub mod Claims
