-- What is promised of a type that is guessed for an expression, and which of its columns' texts are numbers.
use Rattle.std.specs.Prelude.{◌≡◌, ◌⊎◌, ℕ, List, Bool, true, false, IsTrue}
use Rattle.std.specs.Float.Parse.{is_float_text}
use Rattle.vx_value.specs.Types.{LogicalType, Datum, null, utf8}
use Rattle.vx_tree.specs.Trees.{Tree}
use Rattle.vx_source_types.specs.TypeTexts.{type_source}
use Rattle.vx_command_pages.specs.Inputs.{ReadsAs}
use Rattle.vx_command_pages.specs.declared.error.Status.{Status}
use Rattle.vx_command_pages.specs.declared.error.Status.TheVariants.{Failed, Wrong}

-- the schema is the source text of a type over which the text is read as an expression
abbrev pub IsSchemaFor : List ℕ → List ℕ → Type 0
IsSchemaFor text schema = (s : LogicalType) × (e : Tree) × ReadsAs text s e × (schema ≡ type_source s)

-- a command that ends so was given something wrong, or failed
abbrev pub IsOfError : Status → Type 0
IsOfError status = (status ≡ Wrong) ⊎ (status ≡ Failed)

-- whether the value is null, or the text of a number
abbrev pub is_number : Datum → Bool
is_number null = true
is_number (utf8 text) = is_float_text text
is_number _ = false

-- the text is that of a number
abbrev pub IsNumberText : List ℕ → Type 0
IsNumberText text = IsTrue (is_float_text text)
