-- Rows of parts, one part after another.
use Rattle.std.proofs.Common.{◌≡◌, ℕ, suc, ◌+◌, ◌<◌, List, [], ◌∷◌, ◌++◌, length, get_or, take, refl, sym, ap, ◌∙◌, arith, true, append-nil, append_assoc}
use Rattle.std.specs.Prelude.{None}
use Rattle.std.proofs.lemmas.Bool.{and_parts}
use Rattle.std.proofs.lemmas.Grind.{flat_map-append}
use Rattle.std.proofs.Math.ListN.{replicate}
use Rattle.std.proofs.lemmas.List.{take_more, replicate-append-replicate}
use Rattle.std.proofs.lemmas.List.Elements.{All-head, All-tail}
use Rattle.vx_dtype.specs.Deciding.{equal_type-Decides}
use Rattle.vx_dtype.specs.Equality.{equal_type}
use Rattle.vx_value.specs.Types.{LogicalType, Datum, null}
use Rattle.vx_value.specs.Columns.{Batch, first_misfit}
use Rattle.vx_value.specs.Fits.{fits}
use Rattle.vx_value.specs.StructColumns.{EachFit}
use Rattle.vx_value.proofs.Lists.{fits_at}
use Rattle.vx_array_build.proofs.Made.{no_misfits}
use Rattle.vx_array_build.specs.Parts.{all_of_type, rows_of_parts}

-- the parts with one more
pub part_added : (parts : List Batch) (i : ℕ) (part : Batch) (out new : List Datum) → i < length parts → part ≡ get_or parts i part → out ≡ rows_of_parts (take i parts) → new ≡ out ++ part.rows → new ≡ rows_of_parts (take (i + 1) parts)
part_added parts i part out new lt is so_far more =
    let rows = λ (p : Batch). p.rows in
    more ∙ ap (λ l. l ++ part.rows) so_far ∙ ap (λ l. rows_of_parts (take i parts) ++ l) (sym (append-nil part.rows))
    ∙ sym (ap rows_of_parts (take_more parts i part lt ∙ ap (λ p. take i parts ++ p ∷ []) (sym is)) ∙ flat_map-append rows (take i parts) (part ∷ []))

-- a row more behind others
pub row_behind : (ds rows out new : List Datum) (i : ℕ) (d : Datum) → i < length rows → out ≡ ds ++ take i rows → new ≡ out ++ d ∷ [] → d ≡ get_or rows i null → new ≡ ds ++ take (i + 1) rows
row_behind ds rows out new i d lt so_far pushed here =
    pushed ∙ ap (λ l. l ++ d ∷ []) so_far ∙ append_assoc ds (take i rows) (d ∷ []) ∙ ap (λ l. ds ++ l) (ap (λ x. take i rows ++ x ∷ []) here ∙ sym (take_more rows i null lt))

both_fit : (t : LogicalType) (xs ys : List Datum) → first_misfit t xs ≡ None → first_misfit t ys ≡ None → first_misfit t (xs ++ ys) ≡ None
both_fit t [] ys e f = f
both_fit t (v ∷ xs) ys e f =
    let here : fits v t ≡ true = fits_at t (v ∷ xs) 0 null e (omega arith) in
    let rest = no_misfits t xs (λ k lt. fits_at t (v ∷ xs) (suc k) null e (omega arith)) in
    rw (here, both_fit t xs ys rest f)

abbrev RowsFit : Batch → Type 0
RowsFit part = first_misfit part.type part.rows ≡ None

-- rows of parts of one type are of it
pub parts_fit : (t : LogicalType) (parts : List Batch) → EachFit parts → all_of_type t parts ≡ true → first_misfit t (rows_of_parts parts) ≡ None
parts_fit t [] fit same = refl
parts_fit t (part ∷ parts) fit same =
    let each = and_parts (equal_type part.type t) (all_of_type t parts) same in
    let is : part.type ≡ t = (equal_type-Decides part.type t).0 each.0 in
    both_fit t part.rows (rows_of_parts parts) (ap (λ u. first_misfit u part.rows) (sym is) ∙ All-head RowsFit part parts fit) (parts_fit t parts (All-tail RowsFit part parts fit) each.1)

-- constants of one value with one more
pub same_added : (parts : List Batch) (i : ℕ) (part : Batch) (v : Datum) (n m k : ℕ) → i < length parts → part ≡ get_or parts i part → rows_of_parts (take i parts) ≡ replicate n v → part.rows ≡ replicate m v → k ≡ m + n → rows_of_parts (take (i + 1) parts) ≡ replicate k v
same_added parts i part v n m k lt is so_far here sum =
    sym (part_added parts i part (replicate n v) (replicate n v ++ part.rows) lt is (sym so_far) refl)
    ∙ ap (λ l. replicate n v ++ l) here ∙ replicate-append-replicate n m v ∙ ap (λ j. replicate j v) (omega arith)
