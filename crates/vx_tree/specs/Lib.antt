pub mod Trees
pub mod Meaning
pub mod Faults
pub mod Soundness
pub mod Meant
pub mod Views
pub mod Binding
pub mod Pushed
pub mod Nodes
pub mod Built
pub mod Depths
pub mod Levels
pub mod Equality
pub mod Hashes
pub mod Digests
pub mod Exact
pub mod Uniqueness
pub mod Harness
pub mod Texts
pub mod Notations
pub mod TreeTexts
pub mod Validity
pub mod Checked
pub mod Examples
pub mod WorkedRows
pub use Rattle.vx_value.specs.Returns
pub use Rattle.vx_value.specs.Types
pub use Rattle.vx_value.specs.Views as TypeViews
pub use Rattle.vx_fn.specs.Functions
pub use Rattle.vx_fn.specs.Markers
pub use Rattle.vx_fn.specs.Views as FunctionViews
pub use Rattle.vx_fn.specs.Texts as FunctionTexts
