-- Kleene's And is associative and commutative, and comparisons are turned round.
use Rattle.std.proofs.Common.{◌≡◌, refl, sym, Bool, true, false, ◌&&◌, ◌||◌}
use Rattle.std.specs.Prelude.{if◌then◌else◌}
use Rattle.vx_value.specs.Types.{Datum, null, bool}
use Rattle.vx_fn.specs.Functions.{Comparison, mirrored, compares, and_also}
use Rattle.vx_fn.specs.Values.{is_true, is_false, kleene_and, compared}
use Rattle.vx_fn.proofs.Swaps.{swapped_over_exchanged_operands}

pub and_comm : (v w : Datum) → kleene_and v w ≡ kleene_and w v
and_comm = swapped_over_exchanged_operands and_also

pub compared-turned : (c : Comparison) (v w : Datum) → compared c v w ≡ compared (mirrored c) w v
compared-turned c v w = sym (swapped_over_exchanged_operands (compares c) w v)

-- each value is false, true or neither
three : (P : Bool → Bool → Type 0) → P true false → P false true → P false false → (v : Datum) → P (is_false v) (is_true v)
three P f t n (bool false) = f
three P f t n (bool true) = t
three P f t n _ = n

abbrev both : Bool → Bool → Bool → Bool → Datum
both a b c d = if a || c then bool false else if b && d then bool true else null

abbrev Assoc : Bool → Bool → Bool → Bool → Bool → Bool → Type 0
Assoc a b c d e f = both (is_false (both a b c d)) (is_true (both a b c d)) e f ≡ both a b (is_false (both c d e f)) (is_true (both c d e f))

assoc_at : (a b c d : Bool) → Assoc a b c d true false → Assoc a b c d false true → Assoc a b c d false false → (u : Datum) → Assoc a b c d (is_false u) (is_true u)
assoc_at a b c d x y z u = three (λ e f. Assoc a b c d e f) x y z u

assoc_two : (a b : Bool) (u : Datum) → Assoc a b true false (is_false u) (is_true u) → Assoc a b false true (is_false u) (is_true u) → Assoc a b false false (is_false u) (is_true u) → (w : Datum) → Assoc a b (is_false w) (is_true w) (is_false u) (is_true u)
assoc_two a b u x y z w = three (λ c d. Assoc a b c d (is_false u) (is_true u)) x y z w

pub and_assoc : (v w u : Datum) → kleene_and (kleene_and v w) u ≡ kleene_and v (kleene_and w u)
and_assoc v w u = three (λ a b. Assoc a b (is_false w) (is_true w) (is_false u) (is_true u))
    (assoc_two true false u (assoc_at true false true false refl refl refl u) (assoc_at true false false true refl refl refl u) (assoc_at true false false false refl refl refl u) w)
    (assoc_two false true u (assoc_at false true true false refl refl refl u) (assoc_at false true false true refl refl refl u) (assoc_at false true false false refl refl refl u) w)
    (assoc_two false false u (assoc_at false false true false refl refl refl u) (assoc_at false false false true refl refl refl u) (assoc_at false false false false refl refl refl u) w)
    v
