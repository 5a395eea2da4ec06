pub mod Lists
pub mod Regions
pub mod Quads
pub mod Consts
pub mod Magnitude
pub mod Fractions
