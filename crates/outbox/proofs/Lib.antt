pub mod Writes
pub mod Packed
pub mod Laws
pub mod Settled
