pub mod StatusLaws
pub mod TextLaws
pub mod HeadLaws
pub mod LayLaws
pub mod PrintedLaws
pub mod Bouts
pub mod Settled
