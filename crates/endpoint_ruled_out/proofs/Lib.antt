pub mod Steps
pub mod Told
pub mod Unusable
pub mod Lazy
pub mod First
