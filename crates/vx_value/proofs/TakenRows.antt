-- Columns out of which one value is taken.
use Rattle.std.proofs.Common.{◌≡◌, ◌≢◌, ℕ, ◌<◌, List, [], ◌∷◌, map, length, get_or, sym, ap, ◌∙◌, refl, arith, zero, suc, get_or-set_other, rules}
use Rattle.std.proofs.Math.ListN.{set}
use Rattle.std.proofs.lemmas.List.{map-set, get_or-map, length-map}
use Rattle.std.specs.Global.{Vec}
use Rattle.vx_value.specs.declared.value.Value.{Value, the_lemmas}
use Rattle.vx_value.specs.declared.value.Value.TheVariants.{Struct}
use Rattle.vx_value.specs.Types.{Datum, null, struct_of}
use Rattle.vx_value.specs.Fields.{data_of}
use Rattle.vx_value.specs.Views.{value_of}
use Rattle.vx_value.specs.StructColumns.{HaveRow, row_at}

-- where one value is replaced, the others stay
pub others_stay : (vs : List Value) (i k : ℕ) (x : Value) → k ≢ i → get_or (map value_of (set vs i x)) k null ≡ get_or (map value_of vs) k null
others_stay vs i k x apart = rw (map-set, get_or-set_other) refl

pub value_of-Struct : (v : Vec Value) → value_of (Struct v) ≡ struct_of (data_of (map value_of v.items))
value_of-Struct v = search (rules, the_lemmas)

-- columns of the same lengths have the same rows
pub row_still : (i : ℕ) (cs ds : List (List Datum)) → map length ds ≡ map length cs → HaveRow i cs → HaveRow i ds
row_still i cs ds e have j d lt =
    let many : length ds ≡ length cs = sym (length-map ds length) ∙ ap length e ∙ length-map cs length in
    let within : j < length cs = omega (arith, many, lt) in
    let same : length (get_or ds j d) ≡ length (get_or cs j d) = sym (get_or-map length ds j d 0 lt) ∙ ap (λ ns. get_or ns j 0) e ∙ get_or-map length cs j d 0 within in
    omega (arith, same, have j d within)

module _ {X : Type 0} (rows : X → List Datum) where
  pub row_there : (xs : List X) (i m : ℕ) (x : X) → HaveRow i (map rows xs) → m < length xs → x ≡ get_or xs m x → i < length (rows x)
  row_there xs i m x have lt is =
      let here : get_or (map rows xs) m [] ≡ rows x = get_or-map rows xs m x [] lt ∙ ap rows (sym is) in
      let there = have m [] (omega (arith, length-map xs rows, lt)) in
      omega (arith, ap length here, there)

  -- a row's value in one of the columns
  pub at_place : (xs : List X) (i m : ℕ) (x : X) → m < length xs → x ≡ get_or xs m x → get_or (row_at i (map rows xs)) m null ≡ get_or (rows x) i null
  at_place [] i m x lt is = absurd (omega arith)
  at_place (y ∷ xs) i zero x lt is = ap (λ z. get_or (rows z) i null) (sym is)
  at_place (y ∷ xs) i (suc m) x lt is = at_place xs i m x (omega arith) is

  -- a column is replaced by one that is the same in that row
  pub row_kept : (xs : List X) (k m : ℕ) (x z : X) → m < length xs → x ≡ get_or xs m x → get_or (rows z) k null ≡ get_or (rows x) k null → row_at k (map rows (set xs m z)) ≡ row_at k (map rows xs)
  row_kept [] k m x z lt is same = absurd (omega arith)
  row_kept (y ∷ xs) k zero x z lt is same = ap (λ d. d ∷ row_at k (map rows xs)) (same ∙ ap (λ w. get_or (rows w) k null) is)
  row_kept (y ∷ xs) k (suc m) x z lt is same = ap (λ row. get_or (rows y) k null ∷ row) (row_kept xs k m x z (omega arith) is same)

  -- the other columns stay
  pub place_kept : (xs : List X) (i m j : ℕ) (z : X) → j ≢ m → get_or (row_at i (map rows (set xs m z))) j null ≡ get_or (row_at i (map rows xs)) j null
  place_kept [] i m j z apart = refl
  place_kept (y ∷ xs) i zero zero z apart = absurd (apart refl)
  place_kept (y ∷ xs) i zero (suc j) z apart = refl
  place_kept (y ∷ xs) i (suc m) zero z apart = refl
  place_kept (y ∷ xs) i (suc m) (suc j) z apart = place_kept xs i m j z (λ e. apart (ap suc e))

  -- and so do the lengths, with a column of the same length
  pub lengths_kept : (xs : List X) (m : ℕ) (x z : X) → m < length xs → x ≡ get_or xs m x → length (rows z) ≡ length (rows x) → map length (map rows (set xs m z)) ≡ map length (map rows xs)
  lengths_kept [] m x z lt is same = absurd (omega arith)
  lengths_kept (y ∷ xs) zero x z lt is same = ap (λ n. n ∷ map length (map rows xs)) (same ∙ ap (λ w. length (rows w)) is)
  lengths_kept (y ∷ xs) (suc m) x z lt is same = ap (λ ns. length (rows y) ∷ ns) (lengths_kept xs m x z (omega arith) is same)

  pub row_long : (xs : List X) (i : ℕ) → length (row_at i (map rows xs)) ≡ length xs
  row_long xs i = length-map (map rows xs) _ ∙ length-map xs rows
