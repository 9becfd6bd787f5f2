use Rattle.std.proofs.Common.{◌≡◌, ◌≤◌, false, List, [], ◌∷◌, length, refl, arith}
use Rattle.vx_value.specs.Types.{list_of}
use Rattle.vx_value.specs.Views.{data_view}
use Rattle.vx_value.specs.declared.value.Value.{Value}
use Rattle.vx_rewrite_rule_laws.specs.Folding.{is_empty_list}
use Rattle.vx_rewrite_folding.proofs.searches.is_empty.Goals as goal

some_element : (vs : List Value) → 1 ≤ length vs → false ≡ is_empty_list (list_of (data_view vs))
some_element [] h = absurd (omega (arith, h))
some_element (v ∷ vs) h = refl

pub returns-in-len1-up : goal.returns-in-len1-up
returns-in-len1-up c = some_element c.args.items.now c.in-len1-up.len_at_least
