pub mod Checksums
pub mod Worked
pub mod Firm
pub mod Report
pub mod Largest
