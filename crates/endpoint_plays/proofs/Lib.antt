pub mod Written
pub mod Queued
pub mod Runs
pub mod Delivered
pub mod Waiting
pub mod Lent
pub mod Examples
