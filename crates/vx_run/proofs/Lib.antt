pub mod Quiet
pub mod Made
pub mod Fusing
pub mod Branching
pub mod Scanned
pub mod Shown
pub mod Queried
