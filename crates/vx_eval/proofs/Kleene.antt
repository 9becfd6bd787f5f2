-- Kleene's tables over truth values, of which null and all that is none are the third.
use Rattle.std.proofs.Common.{◌≡◌, Option, Bool, refl, ◌∙◌}
use Rattle.vx_value.specs.Types.{Datum, bool}
use Rattle.vx_fn.specs.Values.{kleene_and, kleene_or, kleene_not, is_true, is_false}
use Rattle.vx_eval.specs.Columns.{truth_datum, truth_of}

-- what a value is to the tables: itself, or null where it is no truth value
abbrev pub seen : Datum → Datum
seen v = truth_datum (truth_of v)

true_seen : (v : Datum) → is_true (seen v) ≡ is_true v
true_seen (bool b) = refl
true_seen _ = refl

false_seen : (v : Datum) → is_false (seen v) ≡ is_false v
false_seen (bool b) = refl
false_seen _ = refl

pub left_seen : (v w : Datum) → kleene_and v w ≡ kleene_and (seen v) w
left_seen v w = rw (true_seen v, false_seen v) refl

pub and_told : (v w : Datum) (t : Option Bool) → truth_datum t ≡ kleene_and (seen v) (seen w) → truth_datum t ≡ kleene_and v w
and_told v w t e = e ∙ rw (true_seen v, true_seen w, false_seen v, false_seen w) refl

pub or_told : (v w : Datum) (t : Option Bool) → truth_datum t ≡ kleene_or (seen v) (seen w) → truth_datum t ≡ kleene_or v w
or_told v w t e = e ∙ rw (true_seen v, true_seen w, false_seen v, false_seen w) refl

pub not_told : (v : Datum) (t : Option Bool) → truth_datum t ≡ kleene_not (seen v) → truth_datum t ≡ kleene_not v
not_told v t e = e ∙ go v
  where
    go : (v : Datum) → kleene_not (seen v) ≡ kleene_not v
    go (bool b) = refl
    go _ = refl
