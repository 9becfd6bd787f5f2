pub mod Rows
pub mod Chunked
pub mod Commands
pub mod SqlRuns
pub mod Selected
pub mod Spans
pub mod Guesses
