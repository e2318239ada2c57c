-- Reading a job (document 01, 'The job text' and 'What is turned away'): its lines in scan, its fields in fields, line 1 and
-- the step line in lines, its program in program, and here what is checked at `lemmas`, the lemmas, and the whole.
pub mod Answers
pub mod Labels
pub mod Lemmas
pub mod Reading
