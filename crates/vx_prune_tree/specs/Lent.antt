-- What stands at places in rows, and what lent values are.
use Rattle.std.specs.Prelude.{ℕ, List, [], ◌∷◌, Option}
use Rattle.std.specs.Option.{option_map}
use Rattle.std.specs.Borrow.{Bor}
pub use Rattle.vx_value.specs.Items.{datum_at}
use Rattle.vx_value.specs.Types.{Datum, null, struct_of}
use Rattle.vx_value.specs.Views.{value_of}
use Rattle.vx_value.specs.declared.value.Value.{Value}

-- the value that is lent, if there is one
abbrev pub lent_value : Option (Bor Value) → Option Datum
lent_value = option_map (λ v. value_of v.now)

-- the value at the places, each in the struct at the one before, or null where one isn't a struct
abbrev pub at_places : List ℕ → Datum → Datum
at_places [] v = v
at_places (k ∷ places) (struct_of vs) = at_places places (datum_at k vs)
at_places (k ∷ places) _ = null
