pub mod Sums
pub mod Cat
pub mod Numbers
