pub mod Named
pub mod Coalesces
pub mod Answering
