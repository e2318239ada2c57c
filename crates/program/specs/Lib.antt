-- The program part of a job text (document 01, 'The job text'): all lines up to `lemmas`.
pub mod Draft
pub mod ProgramLine
pub mod Program
