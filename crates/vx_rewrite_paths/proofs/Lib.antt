pub mod Leading
pub mod Projections
pub mod Selections
pub mod Interference
pub mod Prefixes
pub mod Fixing
pub mod Requests
