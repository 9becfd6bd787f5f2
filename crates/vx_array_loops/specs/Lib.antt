pub mod Numbers
pub mod Comparisons
pub mod Computations
pub mod WordBits
pub mod Logic
