pub mod Induction
pub mod Kleene
pub mod Meant
pub mod Kept
pub mod Left
pub mod ReadColumns
pub mod Texts
