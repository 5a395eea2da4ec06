pub mod Answers
pub mod Headers
pub mod Lengths
pub mod Parts
pub mod Theorems
