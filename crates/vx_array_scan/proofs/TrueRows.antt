-- Rows that are true.
use Rattle.std.proofs.Common.{◌≡◌, ℕ, zero, suc, ◌<◌, List, [], ◌∷◌, map, length, get_or, refl, sym, ap, ◌∙◌, arith, Bool, true, false}
use Rattle.std.specs.Prelude.{if◌then◌else◌, ◌&&◌}
use Rattle.std.specs.Str.{is_utf8}
use Rattle.std.proofs.Math.ListN.{replicate}
use Rattle.std.proofs.lemmas.List.{ext_get_or, get_or-map, length-map}
use Rattle.vx_value.specs.Types.{Datum, null, bool, utf8}
use Rattle.vx_fn.specs.Values.{is_true}
use Rattle.vx_array.specs.declared.validity.Validity.{Validity}
use Rattle.vx_array.specs.declared.validity.Validity.TheVariants.{Nothing, Rows}
use Rattle.vx_array.specs.Kinds.{text_row}
use Rattle.vx_array.specs.Shown.{masked, shown, is_valid}
use Rattle.vx_array.proofs.Joined.{AreBoth}
use Rattle.vx_array.proofs.Masked.{get_or-shown, length-masked}

-- whether a row is true; one that isn't there is not
pub true_at : (ds : List Datum) (k : ℕ) → get_or (map is_true ds) k false ≡ is_true (get_or ds k null)
true_at [] k = refl
true_at (d ∷ ds) zero = refl
true_at (d ∷ ds) (suc k) = true_at ds k

-- truth values are true where they are
pub true_bools : (bs : List Bool) → map is_true (map bool bs) ≡ bs
true_bools [] = refl
true_bools (b ∷ bs) = ap (λ l. b ∷ l) (true_bools bs)

-- the same value so often
pub true_same : (n : ℕ) (d : Datum) → map is_true (replicate n d) ≡ replicate n (is_true d)
true_same zero d = refl
true_same (suc n) d = ap (λ l. is_true d ∷ l) (true_same n d)

-- rows of which none is true
pub none_true : (ds : List Datum) → ((k : ℕ) → is_true (get_or ds k null) ≡ false) → replicate (length ds) false ≡ map is_true ds
none_true [] h = refl
none_true (d ∷ ds) h = rw (h 0) (ap (λ l. false ∷ l) (none_true ds (λ k. h (suc k))))

-- what is shown of values of which none is true
pub none_shown : {A : Type 0} (f : A → Datum) (v : Validity) (xs : List A) → ((x : A) → is_true (f x) ≡ false) → replicate (length (shown v (map f xs))) false ≡ map is_true (shown v (map f xs))
none_shown {A = A} f v xs never = none_true (shown v (map f xs)) (λ k. ap is_true (get_or-shown v (map f xs) k) ∙ either (is_valid v k) (get_or (map f xs) k null) (mapped xs k))
  where
    either : (b : Bool) (d : Datum) → is_true d ≡ false → is_true (if b then d else null) ≡ false
    either true d h = h
    either false d h = refl

    mapped : (ys : List A) (k : ℕ) → is_true (get_or (map f ys) k null) ≡ false
    mapped [] k = refl
    mapped (y ∷ ys) zero = never y
    mapped (y ∷ ys) (suc k) = mapped ys k

-- where no row is valid none is true
pub none_valid : (bs : List Bool) (n : ℕ) → n ≡ length bs → replicate n false ≡ map is_true (shown Nothing (map bool bs))
none_valid bs n long =
    let ds = map bool bs in
    ap (λ m. replicate m false) (long ∙ sym (length-map (map bool bs) (λ _. null) ∙ length-map bs bool)) ∙ none_true (shown Nothing ds) (λ k. ap is_true (get_or-shown Nothing ds k))

-- no text is true
pub text_false : (bs : List ℕ) → is_true (text_row bs) ≡ false
text_false bs = go (is_utf8 bs)
  where
    go : (b : Bool) → is_true (if b then utf8 bs else null) ≡ false
    go true = refl
    go false = refl

-- truth values that are true where they are valid
pub both_true : (bs vs rows : List Bool) → AreBoth bs vs rows → rows ≡ map is_true (masked vs (map bool bs))
both_true bs vs rows are = ext_get_or false rows (map is_true (masked vs (map bool bs))) long at
  where
    long : length rows ≡ length (map is_true (masked vs (map bool bs)))
    long = omega (arith, are.long, length-map (masked vs (map bool bs)) is_true, length-masked vs (map bool bs), length-map bs bool)

    cases : (b v : Bool) → (b && v) ≡ is_true (if v then bool b else null)
    cases true true = refl
    cases true false = refl
    cases false true = refl
    cases false false = refl

    at : (k : ℕ) → k < length rows → get_or rows k false ≡ get_or (map is_true (masked vs (map bool bs))) k false
    at k lt =
        let there : get_or (map bool bs) k null ≡ bool (get_or bs k false) = get_or-map bool bs k false null (omega (arith, are.long)) in
        are.each k ∙ cases (get_or bs k false) (get_or vs k false) ∙ ap (λ d. is_true (if get_or vs k false then d else null)) (sym there)
        ∙ sym (true_at (masked vs (map bool bs)) k ∙ ap is_true (get_or-shown (Rows vs) (map bool bs) k))
