-- What the functions inside the crate say, a file for each source file of the same name. No caller needs to read them.
pub mod Admission
pub mod Hearing
pub mod Informing
pub mod Packet
pub mod Reaction
pub mod Handshake
pub mod Due
pub mod Batch
pub mod Sending
