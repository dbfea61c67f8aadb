pub mod Runs
pub mod Copying
pub mod Announcing
pub mod Shown
pub mod Delivered
pub mod Viewed
pub mod Examples
