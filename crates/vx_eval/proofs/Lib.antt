pub mod Filled
mod PackedItems
pub mod Kleene
pub mod Transposed
pub mod Fitting
pub mod Meanings
pub mod Structs
pub mod Lengths
pub mod FirstRows
pub mod Likes
mod Matched
mod Trues
mod Conjoined
pub mod Masked
mod Branches
pub mod Cuts
mod Divisors
mod Results
mod Leaves
mod Gathered
