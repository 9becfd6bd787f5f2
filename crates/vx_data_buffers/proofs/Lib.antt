pub mod Columns
pub mod Fields
pub mod Grown
pub mod Items
pub mod Runs
pub mod Texts
mod ByteBits
mod NumberBytes
mod LaidOut
