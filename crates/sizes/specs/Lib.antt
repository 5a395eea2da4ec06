pub mod Costliest
pub mod Sizes
pub mod Examples
