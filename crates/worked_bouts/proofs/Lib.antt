pub mod Bouts
