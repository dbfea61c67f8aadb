pub mod Unusable
