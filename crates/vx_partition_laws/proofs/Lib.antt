pub mod Taken
pub mod Places
pub mod EachPiece
pub mod Packing
pub mod Recombined
pub mod Covering
pub mod Rebound
