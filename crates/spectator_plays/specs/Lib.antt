pub mod Screens
pub mod Plays
pub mod Buffers
pub mod Viewed
