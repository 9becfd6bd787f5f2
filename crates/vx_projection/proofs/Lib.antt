pub mod Sizes
pub mod Loops
pub mod Keeping
pub mod Agreeing
pub mod Finding
