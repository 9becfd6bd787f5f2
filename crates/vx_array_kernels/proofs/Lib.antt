pub mod Told
pub mod Bits
pub mod NullRows
pub mod Beside
mod Chosen
mod Computed
mod Where
mod Cases
pub mod Picking
mod Liked
pub mod Alive
pub mod Upward
pub mod Along
pub mod Quick
mod AllValid
mod Keyed
mod FloatsComputed
mod ByBytes
pub mod Members
pub mod Among
