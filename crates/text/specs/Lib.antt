pub mod Decimal
pub mod Hex
pub mod Append
pub mod Page
pub mod Draft
pub mod Ascii
