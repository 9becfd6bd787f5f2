pub mod WordBits
pub mod RowBits
pub mod Filled
pub mod Counted
pub mod Where
pub mod Joined
