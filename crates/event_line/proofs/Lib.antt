pub mod WordLaws
pub mod EachLaws
pub mod Settled
