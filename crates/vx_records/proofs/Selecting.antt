-- The rows of what is kept, made one after another, and what is meant at them.
use Rattle.std.proofs.Common.{◌≡◌, ℕ, zero, suc, ◌<◌, ◌≤◌, ◌++◌, List, [], ◌∷◌, length, take, get_or, refl, sym, subst, ap, ◌∙◌, append_assoc, true, false, Bool, Option, arith, if◌then◌else◌}
use Rattle.std.proofs.Math.Seq.{take-suc, take-length}
use Rattle.std.proofs.lemmas.List.{get_or-map, map-append, length-map}
use Rattle.std.proofs.lemmas.List.Elements.{filter-append}
use Rattle.vx_value.specs.Columns.{Batch, batch}
use Rattle.vx_value.specs.Types.{LogicalType, Datum, null}
use Rattle.vx_fn.specs.Values.{is_true}
use Rattle.vx_tree.specs.Meaning.{mean}
use Rattle.vx_tree.specs.Trees.{BoundTree, Tree}
use Rattle.vx_places.specs.Faults.{IsFirstFault}
use Rattle.vx_records.specs.Chunks.{AreAnswers, AreNext, IsFaultOver, IsKeptBatch, IsKeptOf, row_if_true, true_rows}
use Rattle.vx_records.specs.Outcomes.{Gains, StopsSelecting}
use Rattle.vx_records.specs.Reading.{Reading, Reads}
use Rattle.vx_records.specs.Records.{Record, holds, kept, meanings, record_as, rows}
use Rattle.vx_records.specs.declared.answers.Answers.{Answers}
use Rattle.vx_records.specs.declared.kept.KeptBatch.{KeptBatch}
use Rattle.vx_records.specs.declared.error.RecordFault.{RecordFault}
use Rattle.vx_records.specs.declared.error.RecordsError.TheVariants.{Fault}
use Rattle.vx_records.specs.declared.error.SelectError.{SelectError}
use Rattle.vx_records.specs.declared.error.SelectError.TheVariants.{Kept, Selected}
use Rattle.vx_records.proofs.Going.{reads_on}
use Rattle.vx_records.proofs.Keeping.{count_of}
use Rattle.vx_records.proofs.Meaning.{meanings-append}
use Rattle.vx_records.proofs.Stopping.{stops_on}
use Rattle.vx_records.proofs.Written.{gains_trans}

-- of one part after another
rows_on : (e : Tree) (s : LogicalType) (xs ys : List Record) → rows (kept e s (xs ++ ys)) ≡ rows (kept e s xs) ++ rows (kept e s ys)
rows_on e s xs ys = ap rows (filter-append (holds e s) xs ys) ∙ map-append (λ (r : Record). r.row) (kept e s xs) (kept e s ys)

one_if : (b : Bool) (v : Datum) (r : Record) → is_true v ≡ b → row_if_true v r.row ≡ rows (if b then r ∷ [] else [])
one_if true v r h = subst (λ c. (if c then r.row ∷ [] else []) ≡ r.row ∷ []) (sym h) refl
one_if false v r h = subst (λ c. (if c then r.row ∷ [] else []) ≡ []) (sym h) refl

none : Record
none = record_as [] null

kept_upto : (e : Tree) (s : LogicalType) (rs : List Record) (i : ℕ) → i ≤ length rs → true_rows (rows rs) (meanings e s rs) i ≡ rows (kept e s (take i rs))
kept_upto e s rs zero h = refl
kept_upto e s rs (suc i) h =
    let below : i < length rs = search (arith, h) in
    let r = get_or rs i none in
    let value : get_or (meanings e s rs) i null ≡ mean e s r.row = get_or-map (λ (r : Record). mean e s r.row) rs i none null below in
    let row : get_or (rows rs) i null ≡ r.row = get_or-map (λ (r : Record). r.row) rs i none null below in
    let one : row_if_true (get_or (meanings e s rs) i null) (get_or (rows rs) i null) ≡ rows (kept e s (r ∷ [])) =
    ap (λ v. row_if_true v (get_or (rows rs) i null)) value ∙ ap (row_if_true (mean e s r.row)) row ∙ one_if (is_true (mean e s r.row)) (mean e s r.row) r refl in
    ap (λ us. us ++ row_if_true (get_or (meanings e s rs) i null) (get_or (rows rs) i null)) (kept_upto e s rs i (search (arith, h)))
    ∙ ap (λ us. rows (kept e s (take i rs)) ++ us) one
    ∙ sym (rows_on e s (take i rs) (r ∷ []))
    ∙ ap (λ rs. rows (kept e s rs)) (sym (take-suc rs i none below))

-- of what was read
pub rows_read : (e : Tree) (s : LogicalType) (rs : List Record) (us vs : List Datum) → us ≡ rows rs → vs ≡ meanings e s rs → true_rows us vs (length us) ≡ rows (kept e s rs)
rows_read e s rs us vs read meant =
    ap (λ us. true_rows us vs (length us)) read ∙ ap (λ vs. true_rows (rows rs) vs (length (rows rs))) meant
    ∙ ap (true_rows (rows rs) (meanings e s rs)) (length-map rs (λ (r : Record). r.row))
    ∙ kept_upto e s rs (length rs) (search arith) ∙ ap (λ rs. rows (kept e s rs)) (take-length rs)

-- of a batch
pub kept_batch : (e : Tree) (s : LogicalType) (rs : List Record) (whole held made : Batch) (vs : List Datum) → made ≡ batch held.type (true_rows held.rows vs (length held.rows)) → held ≡ whole → whole ≡ batch s (rows rs) → vs ≡ meanings e s rs → made ≡ batch s (rows (kept e s rs))
kept_batch e s rs whole held made vs is lent over meant =
    is ∙ ap (λ (b : Batch). batch b.type (true_rows b.rows vs (length b.rows))) (lent ∙ over) ∙ ap (batch s) (rows_read e s rs (rows rs) vs refl meant)

-- as many rows as values
pub as_many_values : {R : Type 0} (leaves : R → List Reading → Type 0) (n : ℕ) (e : Tree) (s : LogicalType) (before after : R) (a : Answers) → AreAnswers leaves n e s before after a → length a.batch.rows.value.rows ≤ length a.values.rows
as_many_values leaves n e s before after a (rs, next, (texts, over), meant) =
    let rows_long : length a.batch.rows.value.rows ≡ length rs = ap (λ (b : Batch). length b.rows) over ∙ length-map rs (λ (r : Record). r.row) in
    let values_long : length a.values.rows ≡ length rs = ap length meant ∙ length-map rs (λ (r : Record). mean e s r.row) in
    omega (arith, rows_long, values_long)

-- of the next records
pub kept_next : {R : Type 0} (leaves : R → List Reading → Type 0) (n : ℕ) (e : Tree) (s : LogicalType) (before after : R) (a : Answers) (b : KeptBatch) → AreAnswers leaves n e s before after a → IsKeptOf a b → IsKeptBatch leaves n e s before after b
kept_next leaves n e s before after a b (rs, next, (texts, over), meant) (made, read, stop) = (
  rs,
  subst (λ stop. AreNext leaves n before after stop rs) (sym stop) next,
  kept_batch e s rs a.batch.rows.value a.batch.rows.value b.rows.value a.values.rows made refl over meant,
  read ∙ count_of rs a.batch.texts.items texts,
)

-- a fault over these rows
pub selected_fault : (v : BoundTree) (us vs : List Datum) (f : RecordFault) → us ≡ vs → IsFaultOver v us (Fault f) → IsFirstFault vs v f.path.items f.refusal
selected_fault v us vs f same over = subst (λ ws. IsFirstFault ws v f.path.items f.refusal) same over

-- what is meant at what is kept of one part after another
pub gains_kept : (c v : Tree) (s : LogicalType) (before mid after : Option (List Datum)) (xs ys : List Record) → Gains before mid (meanings v s (kept c s xs)) → Gains mid after (meanings v s (kept c s ys)) → Gains before after (meanings v s (kept c s (xs ++ ys)))
gains_kept c v s before mid after xs ys first second =
    subst (Gains before after) (sym (ap (meanings v s) (filter-append (holds c s) xs ys) ∙ meanings-append v s (kept c s xs) (kept c s ys))) (gains_trans before mid after _ _ first second)

-- what stops behind some records, seen from before them
pub selecting_on : {R : Type 0} (leaves : R → List Reading → Type 0) (c v : BoundTree) (s : LogicalType) (start cur : R) (e : SelectError) (xs : List Record) (Wrote Wrote' : List Record → Type 0)
    → Reads (leaves start) (leaves cur) xs → ((ys : List Record) → Wrote ys → Wrote' (xs ++ ys)) → StopsSelecting leaves c v s cur e Wrote → StopsSelecting leaves c v s start e Wrote'
selecting_on leaves c v s start cur (Kept e) xs Wrote Wrote' before wrote stops = stops_on leaves c start cur e xs Wrote (λ rs. Unit {0}) Wrote' (λ rs. Unit {0}) before wrote (λ ys w. tt) stops
selecting_on leaves c v s start cur (Selected f) xs Wrote Wrote' before wrote (mid, done, rs, reads, w, fault) =
    (mid, xs ++ done, rs, subst (Reads (leaves start) (leaves mid)) (sym (append_assoc xs done rs)) (reads_on (leaves start) (leaves cur) (leaves mid) xs (done ++ rs) before reads), wrote done w, fault)
