-- The laws of parts and names.
pub mod PutLaws
pub mod NameLaws
