pub mod ToMachine
pub mod Tests
