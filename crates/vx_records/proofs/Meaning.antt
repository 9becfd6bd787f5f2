-- What an expression means at records, of their rows and of one part after another.
use Rattle.std.proofs.Common.{◌≡◌, List, [], ◌∷◌, ◌++◌, map, refl, ap, ◌∙◌}
use Rattle.std.proofs.lemmas.List.{map-append}
use Rattle.vx_value.specs.Columns.{Batch, batch}
use Rattle.vx_value.specs.Types.{LogicalType, Datum}
use Rattle.vx_tree.specs.Meaning.{mean}
use Rattle.vx_tree.specs.Trees.{Tree}
use Rattle.vx_records.specs.Records.{Record, rows, meanings}

-- at the rows
of_rows : (e : Tree) (s : LogicalType) (rs : List Record) → map (mean e s) (rows rs) ≡ meanings e s rs
of_rows e s [] = refl
of_rows e s (r ∷ rs) = ap (λ vs. mean e s r.row ∷ vs) (of_rows e s rs)

-- at the rows of a batch
pub meanings_of : (e : Tree) (s t : LogicalType) (rs : List Record) (c : Batch) (us vs : List Datum) → us ≡ map (mean e c.type) c.rows → c ≡ batch t vs → t ≡ s → vs ≡ rows rs → us ≡ meanings e s rs
meanings_of e s t rs c us vs meant is over read = meant ∙ ap (λ (c : Batch). map (mean e c.type) c.rows) is ∙ ap (λ t. map (mean e t) vs) over ∙ ap (map (mean e s)) read ∙ of_rows e s rs

-- of one part after another
pub meanings-append : (e : Tree) (s : LogicalType) (xs ys : List Record) → meanings e s (xs ++ ys) ≡ meanings e s xs ++ meanings e s ys
meanings-append e s xs ys = map-append (λ (r : Record). mean e s r.row) xs ys
