pub mod Selecting
pub mod Read
