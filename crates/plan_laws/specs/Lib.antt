pub mod Meaning
pub mod Prepared
pub mod Factoring
