pub mod Agree
pub mod Examples
