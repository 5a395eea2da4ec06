pub mod Bytes
pub mod Records
pub mod Tables
pub mod Verdicts
pub mod Written
pub mod Matrix
pub mod Promises
pub mod Examples
