-- What a caller reads: the contracts' records, and what the stores hold.
pub mod Stores
pub mod Session
pub mod Answers
-- What the functions over plain parts inside the crate say.
pub mod Inside
