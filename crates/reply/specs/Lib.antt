-- Checking a reply (document 01, 'Calls and buffers', Checking, and the numbers 45, 51, 60 to 66): `checked` of Check, over the
-- lines and numbers of a reply. Acceptance says when a reply is accepted, PlainReply gives a reply for any values, Answers says what the
-- answers of the code mean.
pub mod Said
pub mod Lines
pub mod Reply
pub mod Check
pub mod Acceptance
pub mod PlainReply
pub mod Answers
