pub mod Total
pub mod Table
pub mod Edits
pub mod Moves
pub mod Orders
pub mod Rows
pub mod Tables
