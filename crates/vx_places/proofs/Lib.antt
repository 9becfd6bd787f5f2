pub mod Places
pub mod SeenNodes
pub mod Refused
pub mod Faulted
pub mod Evaluated
pub mod Holed
