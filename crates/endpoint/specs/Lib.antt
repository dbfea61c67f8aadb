-- What a caller reads: the contracts' records.
pub mod Endpoint
pub mod Made
pub mod Shown
pub mod Taken
-- Calls one after the other.
pub mod Run
-- What the functions over plain parts inside the crate say.
pub mod Inside
