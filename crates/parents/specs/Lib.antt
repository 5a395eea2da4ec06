pub mod Parent
pub mod Examples
