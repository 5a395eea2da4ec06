pub mod Packed
pub mod Results
