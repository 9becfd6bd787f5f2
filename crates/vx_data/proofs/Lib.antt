pub mod Grown
pub mod Sizes
mod Lined
mod Spelled
mod JsonNumbers
mod FloatNumbers
mod QuotesRead
