pub mod Laws
pub mod TakenIn
pub mod Settled
