pub mod Status
pub mod Statuses
