pub mod Lists
pub mod Faulting
pub mod Optimized
pub mod Unsplit
pub mod Running
pub mod Ending
