mod Untold
mod Kept
mod Stopped
