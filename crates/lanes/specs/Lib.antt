pub mod Lists
pub mod Arithmetic
pub mod Constants
pub mod Lanes
pub mod Region
pub mod Controls
