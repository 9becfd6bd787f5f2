-- Rows that all fit, and one more that does.
use Rattle.std.proofs.Common.{◌≡◌, ◌++◌, List, [], ◌∷◌, map, refl, ap, ◌∙◌}
use Rattle.std.specs.Prelude.{None}
use Rattle.std.proofs.lemmas.Bool.{and_from}
use Rattle.std.proofs.lemmas.List.{map-append}
use Rattle.std.proofs.lemmas.List.Folds.{list_all-append}
use Rattle.vx_value.specs.declared.value.Value.{Value}
use Rattle.vx_value.specs.Types.{LogicalType, Datum}
use Rattle.vx_value.specs.Fits.{fits, Fits, IsBatch}
use Rattle.vx_value.specs.Columns.{first_misfit}
use Rattle.vx_value.specs.Views.{value_of}
use Rattle.vx_value.proofs.Misfits.{no_misfit}

pub fit_after : (t : LogicalType) (rows after : List Value) (v : Value) → after ≡ rows ++ v ∷ [] → first_misfit t (map value_of rows) ≡ None → Fits (value_of v) t → first_misfit t (map value_of after) ≡ None
fit_after t rows after v grown before here =
    let all : IsBatch t (map value_of rows) = (no_misfit t (map value_of rows)).0 before in
    let more : IsBatch t (map value_of rows ++ value_of v ∷ []) =
    list_all-append (λ (d : Datum). fits d t) (map value_of rows) (value_of v ∷ []) ∙ and_from _ _ all (and_from _ _ here refl) in
    let e : map value_of after ≡ map value_of rows ++ value_of v ∷ [] = ap (map value_of) grown ∙ map-append value_of rows (v ∷ []) in
    rw e ((no_misfit t (map value_of rows ++ value_of v ∷ [])).1 more)
