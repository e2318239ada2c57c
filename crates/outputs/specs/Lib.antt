-- What each program prints, as a function of what it read (document 01, 'A job in full'; document 02, S-1).
pub mod Printing
pub mod Show
pub mod Dimacs
pub mod File
