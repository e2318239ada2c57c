-- One number of a reply, and the kinds of its lines (document 01, 'Calls and buffers', Checking).
pub mod Numbers
pub mod Kinds
