pub mod Elimination
