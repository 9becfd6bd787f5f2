pub mod Items
pub mod Pieces
pub mod Partitions
pub mod Holes
pub mod Recombining
pub mod Replacing
