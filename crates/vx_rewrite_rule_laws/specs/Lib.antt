pub mod Rules
pub mod StandardGiven
pub mod StandardLaws
pub mod Branches
pub mod BranchGiven
pub mod BranchLaws
pub mod Folding
pub mod FoldingLaws
