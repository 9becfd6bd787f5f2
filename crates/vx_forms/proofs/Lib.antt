pub mod Rows
pub mod AllGiven
pub mod Application
