pub mod Little
pub mod Record
