pub mod Laws
pub mod Search
pub mod Settled
pub mod Sorting
pub mod Tests
