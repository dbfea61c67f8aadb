pub mod Held
pub mod Overflows
pub mod Laws
pub mod Settled
