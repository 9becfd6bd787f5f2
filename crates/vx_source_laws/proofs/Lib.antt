pub mod Ends
mod Signs
mod NamesRead
mod TreesRead
mod Owns
pub mod Heights
mod Children
mod Postfixes
mod Operators
mod Calls
mod Packs
mod Cases
mod Literals
mod TypesRead
mod Casts
mod TypedLiterals
mod Collecting
mod TypeBrackets
mod ValueBrackets
mod OptionNames
mod PlainOptions
mod ScalarOptions
mod Fulls
pub mod Again
mod SpelledNext
