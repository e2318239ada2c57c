-- Line 1 and the step line, made of fields (document 01, 'The job text').
pub mod FirstLine
pub mod StepLine
