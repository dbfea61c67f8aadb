pub mod Viewing
pub mod Viewed
