pub mod Nesting
pub mod SpelledTrees
pub mod Laws
