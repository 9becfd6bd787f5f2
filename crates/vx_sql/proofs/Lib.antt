pub mod Seen
pub mod Texts
pub mod Items
pub mod Spelled
pub mod NodeReasons
pub mod Walked
pub mod ReadBack
