use Rattle.std.proofs.Common.{◌≡◌, true, false, Bool, not, ◌∙◌, refl, sym, [], ◌∷◌}
use Rattle.std.proofs.lemmas.Bool.{or_parts}
use Rattle.vx_value.specs.Types.{Datum}
use Rattle.vx_value.specs.Views.{value_of}
use Rattle.vx_fn.specs.Faults.{differs}
use Rattle.vx_fn.proofs.Fills.{none_differ}
use Rattle.vx_array_eval.proofs.few.is_fill.Goals as goal

-- a value doesn't differ from itself
itself : (v : Datum) → differs v v ≡ false
itself v = (or_parts _ _ (none_differ v (v ∷ v ∷ []))).0

isnt : (b : Bool) → not b ≡ true → b ≡ false
isnt true h = sym h
isnt false h = refl

pub returns : goal.returns
returns c e = (sym c.is_null.ensures ∙ isnt c.is_null.result e, itself (value_of c.args.value.now))
