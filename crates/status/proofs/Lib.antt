pub mod Merge
pub mod MergeAll
pub mod Held
pub mod Settled
