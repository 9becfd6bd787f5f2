pub mod Refusals
pub mod Queries
pub mod Promises
