pub mod Pick
pub mod First
pub mod Lay
pub mod Little
pub mod Keyed
pub mod Last
