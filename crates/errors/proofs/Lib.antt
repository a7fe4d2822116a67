pub mod Nodes
pub mod Ends
pub mod Spans
