-- Rows that are valid by two validities, and rows that are made null.
use Rattle.std.proofs.Common.{◌≡◌, ℕ, ◌<◌, ◌≤◌, List, [], ◌∷◌, map, length, length-take, get_or, take, refl, sym, ap, ◌∙◌, arith, Bool, true, false, ⊎_elim}
use Rattle.std.specs.Prelude.{if◌then◌else◌, ◌&&◌, min}
use Rattle.std.proofs.Math.ListN.{replicate}
use Rattle.std.proofs.lemmas.Bool.{cases_lt}
use Rattle.std.proofs.lemmas.List.{ext_get_or, get_or-take, get_or_past}
use Rattle.std.proofs.lemmas.Simd.{length-zip2, get_or-zip2}
use Rattle.vx_value.specs.Types.{Datum, null}
use Rattle.vx_array_loops.specs.Logic.{both}
use Rattle.vx_array.specs.declared.validity.Validity.{Validity}
use Rattle.vx_array.specs.Shown.{shown, is_valid, shown_count}
use Rattle.vx_array.proofs.Masked.{length-shown, get_or-shown}

-- what one validity shows of what another one shows
pub joined-shown : (v w all : Validity) (ds : List Datum) → ((k : ℕ) → is_valid all k ≡ (is_valid v k && is_valid w k)) → ((n : ℕ) → shown_count all n ≡ shown_count v (shown_count w n)) → shown all ds ≡ shown v (shown w ds)
joined-shown v w all ds each count =
    ext_get_or null (shown all ds) (shown v (shown w ds)) (length-shown all ds ∙ count (length ds) ∙ ap (shown_count v) (sym (length-shown w ds)) ∙ sym (length-shown v (shown w ds)))
    (λ k lt. get_or-shown all ds k ∙ ap (λ b. if b then get_or ds k null else null) (each k) ∙ nested (is_valid v k) (is_valid w k) (get_or ds k null) ∙ sym (get_or-shown v (shown w ds) k ∙ ap (λ d. if is_valid v k then d else null) (get_or-shown w ds k)))
  where
    nested : (a b : Bool) (d : Datum) → (if a && b then d else null) ≡ (if a then (if b then d else null) else null)
    nested true b d = refl
    nested false b d = refl

-- values that are shown by both
pub masked_is : {A : Type 0} (f : A → Datum) (v own all : Validity) (xs ys : List A) (rows out : List Datum) → rows ≡ shown own (map f xs) → out ≡ shown all (map f ys) → ys ≡ xs → ((k : ℕ) → is_valid all k ≡ (is_valid v k && is_valid own k)) → ((n : ℕ) → shown_count all n ≡ shown_count v (shown_count own n)) → out ≡ shown v rows
masked_is f v own all xs ys rows out is shows same each count = shows ∙ ap (λ l. shown all (map f l)) same ∙ joined-shown v own all (map f xs) each count ∙ ap (shown v) (sym is)

-- rows that are all null
pub all_nulls : (ds : List Datum) (n : ℕ) → n ≡ length ds → replicate n null ≡ map (λ _. null) ds
all_nulls ds n long = ap (λ k. replicate k null) long ∙ go ds
  where
    go : (ds : List Datum) → replicate (length ds) null ≡ map (λ _. null) ds
    go [] = refl
    go (d ∷ ds) = ap (λ l. null ∷ l) (go ds)

-- bits that are true in both of two rows of them
pub record AreBoth (xs ys joined : List Bool) : Type 0 where
  pub long : length joined ≡ min (length xs) (length ys)
  pub each : (k : ℕ) → get_or joined k false ≡ (get_or xs k false && get_or ys k false)

pub are_both : (n : ℕ) (xs ys us vs joined : List Bool) → n ≡ min (length xs) (length ys) → us ≡ take n xs → vs ≡ take n ys → joined ≡ both us vs → AreBoth xs ys joined
are_both n xs ys us vs joined many left right is = record { long = many_joined ∙ many; each = λ k. ⊎_elim (there k) (past k) (cases_lt k n) }
  where
    us_long : length us ≡ n
    us_long = omega (arith, ap length left, length-take n xs)

    vs_long : length vs ≡ n
    vs_long = omega (arith, ap length right, length-take n ys)

    many_joined : length joined ≡ n
    many_joined = ap length is ∙ length-zip2 (λ a b. a && b) us vs (us_long ∙ sym vs_long) ∙ us_long

    there : (k : ℕ) → k < n → get_or joined k false ≡ (get_or xs k false && get_or ys k false)
    there k lt =
        ap (λ l. get_or l k false) is ∙ get_or-zip2 (λ a b. a && b) us vs k false false false (omega (arith, us_long)) (omega (arith, vs_long))
        ∙ ap (λ b. b && get_or vs k false) (ap (λ l. get_or l k false) left ∙ get_or-take n xs k false lt) ∙ ap (λ b. get_or xs k false && b) (ap (λ l. get_or l k false) right ∙ get_or-take n ys k false lt)

    never : (b : Bool) → (b && false) ≡ false
    never true = refl
    never false = refl

    past : (k : ℕ) → n ≤ k → get_or joined k false ≡ (get_or xs k false && get_or ys k false)
    past k le =
        get_or_past joined k false (omega (arith, many_joined))
        ∙ sym (⊎_elim (λ lt. let ends : length ys ≤ k = omega arith in ap (λ b. get_or xs k false && b) (get_or_past ys k false ends) ∙ never (get_or xs k false)) (λ ends. ap (λ b. b && get_or ys k false) (get_or_past xs k false ends)) (cases_lt k (length xs)))
