pub mod Peers
pub mod Settling
pub mod Reading
pub mod Laws
pub mod Views
