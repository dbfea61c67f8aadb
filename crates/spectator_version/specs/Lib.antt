pub mod Values
pub mod Version
pub mod Meets
