-- The clause call, asked again and again (document 00, demand 2: 'no more and no fewer').
pub mod AllClauses
