mod LastDigits
mod DigitsRead
mod Calendar
mod Parts
pub mod ReadBack
pub mod DecimalsAgain
pub mod InstantsAgain
