-- Which names a selection keeps.
use Rattle.std.specs.Prelude.{Bool, true, false, List, Result, Ok}
use Rattle.vx_dtype.specs.declared.error.VortexError.{VortexError}
use Rattle.vx_value.specs.Returns.{known_or}
use Rattle.vx_value.specs.Fields.{first_missing, names_without}
use Rattle.vx_value.specs.Types.{Name}
use Rattle.vx_fn.specs.declared.options.FieldSelection.{FieldSelection}
use Rattle.vx_fn.specs.declared.options.FieldSelection.TheVariants.{Include, Exclude}

-- the names of a selection
abbrev pub selection_names : FieldSelection → List Name
selection_names (Include names) = names
selection_names (Exclude names) = names

-- whether a selection names the fields that are kept
abbrev pub is_inclusion : FieldSelection → Bool
is_inclusion (Include names) = true
is_inclusion (Exclude names) = false

-- the names as given, or the available ones that aren't left out, in their order
abbrev pub kept_names : FieldSelection → List Name → List Name
kept_names (Include names) available = names
kept_names (Exclude names) available = names_without names available

-- what a selection keeps, or the first of its names that isn't available
abbrev pub normalized : FieldSelection → List Name → Result (List Name) VortexError
normalized selection available = known_or (first_missing available (selection_names selection)) (Ok (kept_names selection available))
