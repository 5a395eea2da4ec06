pub mod Sized
pub mod Takes
