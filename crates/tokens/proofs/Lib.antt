-- The laws of a search, of one number of a reply, of a numeral read as one, and of the kind of a line.
pub mod FindLaws
pub mod NumberLaws
pub mod NumeralLaws
pub mod KindLaws
