pub mod Digits
pub mod Decimals
pub mod Days
pub mod Dates
pub mod Instants
