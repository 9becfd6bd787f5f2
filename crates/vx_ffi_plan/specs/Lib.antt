pub mod Kept
pub mod ScanStops
pub mod Selections
pub mod Frames
pub mod Columns
pub mod Batches
pub mod Handles
pub mod Held
