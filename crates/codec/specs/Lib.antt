pub mod Sizes
pub mod Message
pub mod Bytes
pub mod Read
pub mod Calls
pub mod Put
pub mod Front
