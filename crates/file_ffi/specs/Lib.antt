-- The answer of filing as C lays it out.
pub mod Foreign
