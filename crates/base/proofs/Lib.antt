pub mod Bools
pub mod Numbers
pub mod Sums
pub mod Write
pub mod Front
pub mod Maps
pub mod Facts
pub mod Parts
