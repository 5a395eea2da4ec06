pub mod Products
pub mod Step
pub mod Columns
pub mod Plans
