-- The words of the contracts.
pub mod Sum
