-- What reading off answers, and below it how the code finds where a process stands.
pub mod ReadingOff
pub mod Standing
