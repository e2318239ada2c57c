-- What the calls answer, and below it how the code reckons it.
pub mod Totals
pub mod Layout
pub mod ByCounts
