pub mod Most
pub mod Examples
