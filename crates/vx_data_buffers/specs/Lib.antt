pub mod Results
pub mod Bytes
pub mod Layout
pub mod Rows
pub mod Arrays
pub mod Laid
