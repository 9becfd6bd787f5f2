-- The first row that isn't one of the type.
use Rattle.std.proofs.Common.{◌≡◌, ℕ, zero, suc, ◌<◌, List, [], ◌∷◌, get_or, refl, arith, Bool, true, false}
use Rattle.std.specs.Prelude.{Option, Some, None, if◌then◌else◌, ◌↔◌}
use Rattle.std.specs.Option.{option_map}
use Rattle.std.proofs.lemmas.Bool.{and_parts, and_from}
use Rattle.vx_value.specs.Types.{LogicalType, Datum, null}
use Rattle.vx_value.specs.Fits.{fits, Fits, IsBatch}
use Rattle.vx_value.specs.Columns.{first_misfit, IsFirstMisfit}

first_here : (t : LogicalType) (v : Datum) (rows : List Datum) → fits v t ≡ false → IsFirstMisfit t (v ∷ rows) 0
first_here t v rows e = (omega arith, e, λ k h. absurd (omega arith))

first_later : (t : LogicalType) (v : Datum) (rows : List Datum) (i : ℕ) → Fits v t → IsFirstMisfit t rows i → IsFirstMisfit t (v ∷ rows) (suc i)
first_later t v rows i e f = (omega (arith, f.0), f.1, before)
  where
    before : (k : ℕ) → k < suc i → Fits (get_or (v ∷ rows) k null) t
    before zero h = e
    before (suc k) h = f.2 k (omega arith)

pub misfit-is_first : (t : LogicalType) (rows : List Datum) (i : ℕ) → first_misfit t rows ≡ Some i → IsFirstMisfit t rows i
misfit-is_first t [] i e = cc
misfit-is_first t (v ∷ rows) i e = go (λ j h. misfit-is_first t rows j h) (fits v t) refl (first_misfit t rows) refl e
  where
    go : ((j : ℕ) → first_misfit t rows ≡ Some j → IsFirstMisfit t rows j) → (b : Bool) → fits v t ≡ b
        → (r : Option ℕ) → first_misfit t rows ≡ r → (if b then option_map (λ j. suc j) r else Some 0) ≡ Some i → IsFirstMisfit t (v ∷ rows) i
    go next false here r rest e = let z : 0 ≡ i = cc in rw (← z) (first_here t v rows here)
    go next true here None rest e = cc
    go next true here (Some j) rest e = let z : suc j ≡ i = cc in rw (← z) (first_later t v rows j here (next j rest))

all_fit : (t : LogicalType) (rows : List Datum) → first_misfit t rows ≡ None → IsBatch t rows
all_fit t [] e = refl
all_fit t (v ∷ rows) e = go (λ h. all_fit t rows h) (fits v t) refl (first_misfit t rows) refl e
  where
    go : (first_misfit t rows ≡ None → IsBatch t rows) → (b : Bool) → fits v t ≡ b
        → (r : Option ℕ) → first_misfit t rows ≡ r → (if b then option_map (λ j. suc j) r else Some 0) ≡ None → IsBatch t (v ∷ rows)
    go next true here None rest e = and_from _ _ here (next rest)
    go next true here (Some j) rest e = cc
    go next false here r rest e = cc

none_misfit : (t : LogicalType) (rows : List Datum) → IsBatch t rows → first_misfit t rows ≡ None
none_misfit t [] e = refl
none_misfit t (v ∷ rows) e =
    let x = and_parts _ _ e in
    let here : fits v t ≡ true = x.0 in
    rw (here, none_misfit t rows x.1)

pub no_misfit : (t : LogicalType) (rows : List Datum) → (first_misfit t rows ≡ None) ↔ IsBatch t rows
no_misfit t rows = (all_fit t rows, none_misfit t rows)
