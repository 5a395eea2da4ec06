pub mod Walk
pub mod Three
