pub mod Conjuncts
pub mod Merging
pub mod Laws
pub mod Finding
pub mod Places
pub mod Sides
