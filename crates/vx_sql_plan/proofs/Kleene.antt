-- And of values, one after another.
use Rattle.std.proofs.Common.{◌≡◌, Bool, true, false, ◌&&◌, ◌||◌, List, [], ◌∷◌, ◌++◌, refl, sym, ap, ◌∙◌}
use Rattle.std.specs.Prelude.{if◌then◌else◌}
use Rattle.vx_value.specs.Fits.{Fits}
use Rattle.vx_value.specs.Types.{Datum, null, bool}
use Rattle.vx_fn.specs.Functions.{truth_type}
use Rattle.vx_fn.specs.Values.{is_true, is_false, kleene_and}
use Rattle.vx_fn.proofs.Kleene.{and_comm, and_assoc}
use Rattle.vx_sql_plan.specs.Laws.{conjunction}

-- each value is false, true or neither
three : (P : Bool → Bool → Type 0) → P true false → P false true → P false false → (v : Datum) → P (is_false v) (is_true v)
three P f t n (bool false) = f
three P f t n (bool true) = t
three P f t n _ = n

abbrev both : Bool → Bool → Bool → Bool → Datum
both a b c d = if a || c then bool false else if b && d then bool true else null

pub true_and : (v w : Datum) → is_true (kleene_and v w) ≡ (is_true v && is_true w)
true_and v w =
    three (λ a b. is_true (both a b (is_false w) (is_true w)) ≡ (b && is_true w)) refl
    (three (λ c d. is_true (both false true c d) ≡ (true && d)) refl refl refl w) (three (λ c d. is_true (both false false c d) ≡ (false && d)) refl refl refl w) v

-- ---- a value beside true is as a truth value

pub true_left : (x y : Datum) → kleene_and (kleene_and (bool true) x) y ≡ kleene_and x y
true_left x y = three (λ a b. both (is_false (both false true a b)) (is_true (both false true a b)) (is_false y) (is_true y) ≡ both a b (is_false y) (is_true y)) refl refl refl x

pub true_right : (x y : Datum) → kleene_and x (kleene_and (bool true) y) ≡ kleene_and x y
true_right x y = and_comm x (kleene_and (bool true) y) ∙ true_left y x ∙ and_comm y x

pub true_before : (x y : Datum) → kleene_and (bool true) (kleene_and x y) ≡ kleene_and x y
true_before x y = sym (and_assoc (bool true) x y) ∙ true_left x y

pub true_behind : (x : Datum) → kleene_and (kleene_and x (bool true)) (bool true) ≡ kleene_and (bool true) x
true_behind x = ap (λ z. kleene_and z (bool true)) (and_comm x (bool true)) ∙ true_left x (bool true) ∙ and_comm x (bool true)

-- a truth value or null is itself
pub as_truth : (v : Datum) → Fits v (truth_type true) → kleene_and (bool true) v ≡ v
as_truth null h = refl
as_truth (bool false) h = refl
as_truth (bool true) h = refl
as_truth _ h = cc

-- ---- exchange, and lists

pub exchange : (a b c d : Datum) → kleene_and (kleene_and a b) (kleene_and c d) ≡ kleene_and (kleene_and a c) (kleene_and b d)
exchange a b c d =
    let inner : kleene_and b (kleene_and c d) ≡ kleene_and c (kleene_and b d) = sym (and_assoc b c d) ∙ ap (λ x. kleene_and x d) (and_comm b c) ∙ and_assoc c b d in
    and_assoc a b (kleene_and c d) ∙ ap (kleene_and a) inner ∙ sym (and_assoc a c (kleene_and b d))

pub conjunction-append : (xs ys : List Datum) → conjunction (xs ++ ys) ≡ kleene_and (conjunction xs) (conjunction ys)
conjunction-append [] [] = refl
conjunction-append [] (y ∷ ys) = sym (true_before y (conjunction ys))
conjunction-append (x ∷ xs) ys = ap (kleene_and x) (conjunction-append xs ys) ∙ sym (and_assoc x (conjunction xs) (conjunction ys))
