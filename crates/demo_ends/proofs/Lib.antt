pub mod Settled
pub mod Handshake
