pub mod Pushdown
pub mod Statements
pub mod Laws
