-- The laws of a reply, by what the code does with it; then those of Acceptance and PlainReply (start at Accepted).
pub mod LineLaws
pub mod HeardLaws
pub mod BufferLaws
pub mod MarkLaws
pub mod ReplyLaws
pub mod CheckLaws
pub mod Satisfying
pub mod FormLaws
pub mod ListedLaws
pub mod DistinctLaws
pub mod Accepted
pub mod PlainReply
pub mod Examples
