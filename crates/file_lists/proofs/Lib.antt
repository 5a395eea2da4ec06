pub mod Small
pub mod Compared
pub mod Matches
pub mod Numbered
