pub mod Shown
pub mod Words
pub mod Ranges
pub mod Explained
