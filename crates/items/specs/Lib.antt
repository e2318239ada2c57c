-- A name of a lemma, as a field.
pub mod Items
