pub mod Quality
pub mod Advantage
