-- A reading as C lays it out.
pub mod Foreign
