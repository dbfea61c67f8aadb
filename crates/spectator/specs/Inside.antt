-- What the functions inside the crate say, a file for each source file of the same name. No caller needs to read them.
pub mod Handling
