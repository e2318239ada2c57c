-- A field that is lent the cursor.
pub mod Lent
