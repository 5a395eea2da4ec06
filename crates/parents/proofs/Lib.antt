pub mod Lowest
pub mod Ascent
pub mod Examples
