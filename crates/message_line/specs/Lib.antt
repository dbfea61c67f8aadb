pub mod Line
pub mod Head
pub mod Calls
pub mod Printed
