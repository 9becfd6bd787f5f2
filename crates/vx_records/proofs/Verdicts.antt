-- The lines of what is kept, by a verdict.
use Rattle.std.proofs.Common.{◌≡◌, ◌≤◌, ◌++◌, ◌∷◌, ℕ, List, [], true, false, length, refl, ap, subst, sym, ◌∙◌, inl, inr}
use Rattle.std.proofs.lemmas.List.{length-map}
use Rattle.vx_dtype.specs.Lists.{IsIn}
use Rattle.vx_value.specs.Columns.{Batch, batch}
use Rattle.vx_value.specs.Types.{LogicalType, Datum}
use Rattle.vx_fn.specs.Values.{is_true}
use Rattle.vx_tree.specs.Faults.{HasNoFault}
use Rattle.vx_tree.specs.Meaning.{mean}
use Rattle.vx_tree.specs.Trees.{BoundTree, Tree, unbound}
use Rattle.vx_prune_tree.specs.Verdicts.{IsTrueVerdict}
use Rattle.vx_prune_tree.specs.declared.verdicts.Verdict.{Verdict}
use Rattle.vx_records.specs.Chunks.{HasRecords, each_line, texts_in}
use Rattle.vx_records.specs.Outcomes.{NeverFaults}
use Rattle.vx_records.specs.Records.{Record, rows, texts, kept_lines, record_line}
use Rattle.vx_records.specs.declared.batches.RecordBatch.{RecordBatch}
use Rattle.vx_records.proofs.Faulting.{never_together}
use Rattle.vx_records.proofs.Keeping.{count_of}

-- of no record
pub none_kept : (e : Tree) (s : LogicalType) (rs : List Record) → ((v : Datum) → IsIn v (rows rs) → is_true (mean e s v) ≡ false) → kept_lines e s rs ≡ []
none_kept e s [] none = refl
none_kept e s (r ∷ rs) none =
    let here : is_true (mean e s r.row) ≡ false = none r.row (inl refl) in
    rw here (none_kept e s rs (λ v i. none v (inr i)))

-- of each record
pub each_kept : (e : Tree) (s : LogicalType) (rs : List Record) → ((v : Datum) → IsIn v (rows rs) → is_true (mean e s v) ≡ true) → kept_lines e s rs ≡ each_line (texts rs)
each_kept e s [] each = refl
each_kept e s (r ∷ rs) each =
    let here : is_true (mean e s r.row) ≡ true = each r.row (inl refl) in
    rw here (ap (λ ls. record_line r ++ ls) (each_kept e s rs (λ v i. each v (inr i))))

-- of the records of a chunk, where its rows are judged unless the tree faults on them, and lines are made by that
pub chunk_kept : (b : BoundTree) (s : LogicalType) (n : ℕ) (chunk : RecordBatch) (rs : List Record) (verdict : Verdict) (lines : List ℕ) → HasRecords chunk s rs → length rs ≤ n
    → (HasNoFault b chunk.rows.value.rows → IsTrueVerdict b chunk.rows.value.type chunk.rows.value.rows verdict)
    → ((rs : List Record) → HasRecords chunk chunk.rows.value.type rs → IsTrueVerdict b chunk.rows.value.type (rows rs) verdict → lines ≡ kept_lines (unbound b) chunk.rows.value.type rs)
    → NeverFaults n b rs → lines ≡ kept_lines (unbound b) s rs
chunk_kept b s n chunk rs verdict lines (same, over) few judged made never =
    subst (λ (c : Batch). (HasNoFault b c.rows → IsTrueVerdict b c.type c.rows verdict)
    → ((rs : List Record) → (texts_in chunk.texts.items ≡ texts rs) × (c ≡ batch c.type (rows rs)) → IsTrueVerdict b c.type (rows rs) verdict → lines ≡ kept_lines (unbound b) c.type rs)
    → lines ≡ kept_lines (unbound b) s rs)
    (sym over) (λ judged made. made rs (same, refl) (judged (never_together n b rs few never))) judged made

-- its texts are as many as its rows
pub as_many : (s : LogicalType) (chunk : RecordBatch) (rs : List Record) → HasRecords chunk s rs → length chunk.texts.items ≡ length chunk.rows.value.rows
as_many s chunk rs (same, over) = count_of rs chunk.texts.items same ∙ sym (length-map rs (λ (r : Record). r.row)) ∙ sym (ap (λ (c : Batch). length c.rows) over)
