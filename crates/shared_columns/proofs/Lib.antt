pub mod Marks
pub mod Among
