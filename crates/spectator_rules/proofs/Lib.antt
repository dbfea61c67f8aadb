pub mod Examples
pub mod PollHandshake
