-- The laws that the proofs of the functions cite, the largest total, and what an answer says of its table.
pub mod NumberLaws
pub mod CountLaws
pub mod WordLaws
pub mod TotalLaws
pub mod LayoutLaws
pub mod Largest
pub mod AnswerLaws
