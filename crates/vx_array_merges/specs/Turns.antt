-- Masks in the place of conditions.
use Rattle.std.specs.Prelude.{List, Bool, map}
use Rattle.vx_value.specs.Types.{Datum, bool}

-- the truth values of each mask
abbrev pub truths_in : List (List Bool) → List (List Datum)
truths_in ms = map (λ m. map bool m) ms
