-- Paths that lead nowhere.
use Rattle.std.specs.Prelude.{List, [], ◌∷◌, Option, Some, None, Result, Ok, Err}
use Rattle.std.specs.Option.{option_or}
use Rattle.vx_dtype.specs.declared.error.VortexError.{VortexError}
use Rattle.vx_dtype.specs.declared.error.VortexError.TheVariants.{NotAStruct, NoSuchField}
use Rattle.vx_value.specs.Fields.{field_type}
use Rattle.vx_value.specs.Paths.{Path}
use Rattle.vx_value.specs.Types.{Name, LogicalType, ty, struct}

-- what is said of the type of a field, or the refusal of one that isn't there
abbrev pub in_field : Name → Option LogicalType → (LogicalType → Option VortexError) → Option VortexError
in_field a None said = Some (NoSuchField a)
in_field a (Some t) said = said t

-- why the path leads nowhere in the type, if it doesn't: it goes on to a field that isn't there, or into another type than a struct
abbrev pub lost : Path → LogicalType → Option VortexError
lost [] t = None
lost (a ∷ path) (ty (struct fs) n) = in_field a (field_type a fs) (λ t. lost path t)
lost (a ∷ path) _ = Some NotAStruct

-- why the first one of the paths that leads nowhere does so
abbrev pub first_lost : List Path → LogicalType → Option VortexError
first_lost [] t = None
first_lost (path ∷ paths) t = option_or (lost path t) (first_lost paths t)

-- the answer, unless a path leads nowhere
abbrev pub unless_lost : {A : Type 0} → Option VortexError → A → Result A VortexError
unless_lost None answer = Ok answer
unless_lost (Some refusal) answer = Err refusal
