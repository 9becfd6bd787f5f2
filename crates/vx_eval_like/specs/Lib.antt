pub mod Laws
pub mod Patterns
pub mod Walks
pub mod Beginnings
