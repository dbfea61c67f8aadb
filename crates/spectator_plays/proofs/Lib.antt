pub mod Shutdown
pub mod Written
pub mod Behind
pub mod Waiting
pub mod Lent
pub mod Viewed
pub mod Allowed
pub mod Examples
