pub mod Word
pub mod Links
pub mod Ready
