pub mod Leading
pub mod Agreement
pub mod Asked
pub mod Requests
