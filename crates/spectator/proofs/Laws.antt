-- Laws of one call, one store or one group of calls, named as its source file.
pub mod Hosting
pub mod Getters
pub mod SessionEvents
pub mod Handling
pub mod Requests
pub mod Creation
pub mod Advancing
pub mod Polling
-- Laws of all stores.
pub mod Counts
-- Laws of all calls.
pub mod Settled
