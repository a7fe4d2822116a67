pub mod Lengths
pub mod Sums
