-- What run to values answers, and below it how the code tests a time, finds a helper and lays the values out.
pub mod ToValues
pub mod Tests
pub mod Rank
pub mod Parts
