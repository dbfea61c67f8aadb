pub mod Pads
pub mod Laws
pub mod Laid
pub mod Inputs
pub mod Settled
