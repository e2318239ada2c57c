-- No clause is longer than a buffer must be; so no piece is empty, and the pieces joined are the clauses.
pub mod ShortClauses
pub mod Joined
pub mod Examples
