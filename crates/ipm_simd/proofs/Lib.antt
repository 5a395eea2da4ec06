pub mod Questions
pub mod Solves
pub mod Filed
