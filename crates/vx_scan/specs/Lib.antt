pub mod Alike
pub mod Plans
pub mod Propositions
pub mod Scans
