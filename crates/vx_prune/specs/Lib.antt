pub mod Selected
pub mod Records
pub mod Views
