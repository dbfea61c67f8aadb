pub mod Signed
pub mod Bits
pub mod Settled
