pub mod Length
pub mod Found
