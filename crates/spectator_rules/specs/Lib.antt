pub mod Setup
pub mod Watch
pub mod Inputs
pub mod Handling
pub mod Advance
pub mod Call
pub mod Step
pub mod Value
