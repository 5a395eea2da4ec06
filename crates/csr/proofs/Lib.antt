pub mod Chain
pub mod Examples
pub mod First
pub mod Has
pub mod Right
pub mod RowParts
pub mod Rule
pub mod Yes
