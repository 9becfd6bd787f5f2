pub mod Pruned
pub mod Faulting
pub mod Opened
pub mod Reading
pub mod Scanning
