-- Act: what is due, the messages it queues, and its ways out.
pub mod Due
pub mod Batch
pub mod Ways
