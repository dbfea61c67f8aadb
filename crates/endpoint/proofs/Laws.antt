-- Laws of all calls.
pub mod Queued
pub mod Ends
pub mod Announced
pub mod Room
pub mod Phases
pub mod Lengths
pub mod Settled
-- Laws of one call or one group of calls, named as its source file.
pub mod Creation
pub mod Handshake
pub mod Message
pub mod Act
pub mod Sending
pub mod Disconnecting
pub mod Reports
pub mod Taking
pub mod Getters
-- The law of all runs of calls.
pub mod Run
