pub mod Machine
pub mod Outcome
pub mod Ends
pub mod Demand3
pub mod Work
pub mod Theorems
