pub mod Codes
pub mod Words
pub mod Redirection
pub mod Refusals
pub mod Retries
pub mod Endings
pub mod Examples
pub mod Names
