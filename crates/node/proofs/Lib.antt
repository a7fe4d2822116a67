pub mod Paddings
pub mod Ports
pub mod Readings
pub mod Splits
pub mod Named
pub mod Compared
pub mod Examples
pub mod Made
