pub mod Endings
pub mod Stops
pub mod QueryPages
pub mod RowPages
pub mod RowStops
pub mod VerdictPages
