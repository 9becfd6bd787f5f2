pub mod Placed
pub mod Numbers
