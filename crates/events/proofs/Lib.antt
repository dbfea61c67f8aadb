pub mod Inputs
pub mod Laws
pub mod Settled
