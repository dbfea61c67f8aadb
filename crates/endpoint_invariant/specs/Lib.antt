pub mod Each
pub mod Runs
pub mod Reports
pub mod Typed
pub mod Sound
pub mod Announcement
