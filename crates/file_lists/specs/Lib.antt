pub mod Matched
pub mod Sizes
pub mod Known
