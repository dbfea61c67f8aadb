pub mod Typed
pub mod Seated
pub mod Handled
pub mod Reports
