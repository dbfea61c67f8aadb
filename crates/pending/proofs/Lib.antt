pub mod Laws
pub mod Widths
pub mod PackAll
pub mod Settled
