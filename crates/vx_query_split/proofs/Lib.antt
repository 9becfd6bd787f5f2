pub mod Answered
pub mod Joined
pub mod Meant
pub mod Names
pub mod Walked
pub mod Divided
