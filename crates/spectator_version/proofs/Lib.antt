pub mod Typed
pub mod Asked
pub mod Reached
pub mod Unseen
pub mod Held
pub mod Values
pub mod Proper
pub mod Right
