-- What the least and the greatest of values are, as they are read one after another.
use Rattle.std.specs.Prelude.{◌≡◌, List, [], ◌∷◌, Option, Some, None}
use Rattle.vx_value.specs.Types.{Datum}
use Rattle.vx_prune_bounds.specs.Order.{lower, higher}
use Rattle.vx_prune_tree.specs.declared.ends.Ends.{Ends}
use Rattle.vx_prune_tree.specs.Lent.{lent_value}
use Rattle.vx_prune_tree.specs.Reading.{end_of}

-- they are those of the values, of which there is one where there are ends
abbrev pub AreEnds : Option Ends → List Datum → Type 0
AreEnds None values = values ≡ []
AreEnds (Some e) [] = ⊥
AreEnds (Some e) (v ∷ values) = (lent_value e.least ≡ end_of lower (v ∷ values)) × (lent_value e.greatest ≡ end_of higher (v ∷ values))
