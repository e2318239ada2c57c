-- The fields of a line (document 01, 'The job text').
pub mod Fields
