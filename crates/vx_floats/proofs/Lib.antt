pub mod Once
pub mod Sums
pub mod Orders
mod Units
mod Enough
mod Fields
mod Octets
mod Shown
mod Scales
mod DecimalTexts
mod Remainders
pub mod FloatsAgain
pub mod TextsAscii
