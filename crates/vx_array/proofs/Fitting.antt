-- Rows that are values of a type, one after another.
use Rattle.std.proofs.Common.{◌≡◌, ℕ, ◌+◌, ◌<◌, ◌≤◌, List, [], ◌∷◌, map, length, get_or, take, drop, zero, suc, refl, sym, ap, ◌∙◌, arith, Bool, true, false, drop-cons}
use Rattle.std.specs.Prelude.{Option, Some, None, if◌then◌else◌}
use Rattle.std.specs.Option.{option_map}
use Rattle.std.proofs.lemmas.List.{drop_all}
use Rattle.vx_value.specs.Types.{LogicalType, Datum, null}
use Rattle.vx_value.specs.Fits.{fits}
use Rattle.vx_value.specs.Columns.{first_misfit}

shift : (i : ℕ) (r : Option ℕ) → option_map (λ k. i + k) (option_map (λ k. suc k) r) ≡ option_map (λ k. (i + 1) + k) r
shift i None = refl
shift i (Some j) = ap Some (omega arith)

rest_is : (t : LogicalType) (rows : List Datum) (i : ℕ) (b : Bool) → i < length rows → fits (get_or rows i null) t ≡ b → first_misfit t (drop i rows) ≡ (if b then option_map (λ k. suc k) (first_misfit t (drop (suc i) rows)) else Some 0)
rest_is t rows i b lt fit = ap (first_misfit t) (drop-cons rows i null lt) ∙ ap (λ c. if c then option_map (λ k. suc k) (first_misfit t (drop (suc i) rows)) else Some 0) fit

-- one more row that is a value of the type
pub misfit_more : (t : LogicalType) (rows : List Datum) (i : ℕ) → i < length rows → first_misfit t rows ≡ option_map (λ k. i + k) (first_misfit t (drop i rows)) → fits (get_or rows i null) t ≡ true →
    first_misfit t rows ≡ option_map (λ k. (i + 1) + k) (first_misfit t (drop (i + 1) rows))
misfit_more t rows i lt so_far fit =
    let next : suc i ≡ i + 1 = omega arith in
    so_far ∙ ap (option_map (λ k. i + k)) (rest_is t rows i true lt fit) ∙ shift i (first_misfit t (drop (suc i) rows)) ∙ ap (λ n. option_map (λ k. (i + 1) + k) (first_misfit t (drop n rows))) next

-- the first row that isn't one
pub misfit_here : (t : LogicalType) (rows : List Datum) (i : ℕ) → i < length rows → first_misfit t rows ≡ option_map (λ k. i + k) (first_misfit t (drop i rows)) → fits (get_or rows i null) t ≡ false → Some i ≡ first_misfit t rows
misfit_here t rows i lt so_far unfit =
    let here : i + 0 ≡ i = omega arith in
    sym (so_far ∙ ap (option_map (λ k. i + k)) (rest_is t rows i false lt unfit) ∙ ap Some here)

-- all rows are
pub misfit_none : (t : LogicalType) (rows : List Datum) (i : ℕ) → length rows ≤ i → first_misfit t rows ≡ option_map (λ k. i + k) (first_misfit t (drop i rows)) → None ≡ first_misfit t rows
misfit_none t rows i past so_far = sym (so_far ∙ ap (λ l. option_map (λ k. i + k) (first_misfit t l)) (drop_all i rows past))

-- where a row and those behind it are values of the type
parted : (t : LogicalType) (v : Datum) (rows : List Datum) → first_misfit t (v ∷ rows) ≡ None → (fits v t ≡ true) × (first_misfit t rows ≡ None)
parted t v rows e = go (fits v t) refl (first_misfit t rows) refl e
  where
    go : (b : Bool) → fits v t ≡ b → (r : Option ℕ) → first_misfit t rows ≡ r → (if b then option_map (λ j. suc j) r else Some 0) ≡ None → (fits v t ≡ true) × (first_misfit t rows ≡ None)
    go true here None rest e = (here, rest)
    go true here (Some j) rest e = cc
    go false here r rest e = cc

dropped : (t : LogicalType) (n : ℕ) (rows : List Datum) → first_misfit t rows ≡ None → first_misfit t (drop n rows) ≡ None
dropped t zero rows e = e
dropped t (suc n) [] e = e
dropped t (suc n) (v ∷ rows) e = dropped t n rows ((parted t v rows e).1)

taken : (t : LogicalType) (n : ℕ) (rows : List Datum) → first_misfit t rows ≡ None → first_misfit t (take n rows) ≡ None
taken t zero rows e = refl
taken t (suc n) [] e = e
taken t (suc n) (v ∷ rows) e =
    let halves = parted t v rows e in
    ap (λ b. if b then option_map (λ j. suc j) (first_misfit t (take n rows)) else Some 0) halves.0 ∙ ap (option_map (λ j. suc j)) (taken t n rows halves.1)

-- a part of rows that are values of the type
pub part_fits : (t : LogicalType) (from len : ℕ) (rows : List Datum) → first_misfit t rows ≡ None → first_misfit t (take len (drop from rows)) ≡ None
part_fits t from len rows e = taken t len (drop from rows) (dropped t from rows e)

-- what is made of rows that are values of a type
pub made_fits : (t u : LogicalType) (f : Datum → Datum) (rows : List Datum) → ((v : Datum) → fits v t ≡ true → fits (f v) u ≡ true) → first_misfit t rows ≡ None → first_misfit u (map f rows) ≡ None
made_fits t u f [] h e = refl
made_fits t u f (v ∷ rows) h e =
    let halves = parted t v rows e in
    ap (λ b. if b then option_map (λ j. suc j) (first_misfit u (map f rows)) else Some 0) (h v halves.0) ∙ ap (option_map (λ j. suc j)) (made_fits t u f rows h halves.1)
