pub mod Pad
pub mod Packing
