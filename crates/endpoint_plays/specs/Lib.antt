pub mod Sides
pub mod Plays
pub mod Buffers
pub mod Delivered
