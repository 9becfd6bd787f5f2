-- What is written of one portion after another, and what stops behind some.
use Rattle.std.proofs.Common.{◌++◌, ℕ, List, [], Option}
use Rattle.std.proofs.KnownBytes.{Appends-nil, Appends-trans}
use Rattle.std.specs.Io.KnownBytes.{Appends}
use Rattle.vx_value.specs.Types.{LogicalType, Datum}
use Rattle.vx_tree.specs.Trees.{BoundTree, Tree, unbound}
use Rattle.vx_records.specs.Outcomes.{Breaks, EndsRecords, Gains, Stops, StopsSelecting}
use Rattle.vx_records.specs.Reading.{Reading, Reads}
use Rattle.vx_records.specs.Records.{Record, kept, kept_lines, meanings}
use Rattle.vx_records.specs.declared.error.RecordsError.{RecordsError}
use Rattle.vx_records.specs.declared.error.SelectError.{SelectError}
use Rattle.vx_records.proofs.Selecting.{gains_kept, selecting_on}
use Rattle.vx_records.proofs.Stopping.{stops_on}
use Rattle.vx_records.proofs.Going.{reads_none}
use Rattle.vx_records.proofs.Written.{appends_on, breaks_behind, breaks_on, gains_on}

pub filtered_none : (e : Tree) (s : LogicalType) (a : Option (List ℕ)) → Appends a a (kept_lines e s [])
filtered_none e s a = Appends-nil a

pub filtered_on : (e : Tree) (s : LogicalType) (a b c : Option (List ℕ)) (xs ys : List Record) → Appends a b (kept_lines e s xs) → Appends b c (kept_lines e s ys) → Appends a c (kept_lines e s (xs ++ ys))
filtered_on e s a b c xs ys first second = appends_on [] e s a b c xs ys first second

pub filtered_stops : {R : Type 0} (leaves : R → List Reading → Type 0) (t : BoundTree) (s : LogicalType) (start mid : R) (a b c : Option (List ℕ)) (e : RecordsError) (xs : List Record)
    → Reads (leaves start) (leaves mid) xs → Appends a b (kept_lines (unbound t) s xs)
    → Stops leaves t mid e (λ rs. Appends b c (kept_lines (unbound t) s rs)) (λ rs. Breaks b c (kept_lines (unbound t) s rs))
    → Stops leaves t start e (λ rs. Appends a c (kept_lines (unbound t) s rs)) (λ rs. Breaks a c (kept_lines (unbound t) s rs))
filtered_stops leaves t s start mid a b c e xs before wrote stops =
    stops_on leaves t start mid e xs (λ rs. Appends b c (kept_lines (unbound t) s rs)) (λ rs. Breaks b c (kept_lines (unbound t) s rs))
    (λ rs. Appends a c (kept_lines (unbound t) s rs)) (λ rs. Breaks a c (kept_lines (unbound t) s rs))
    before (λ ys w. appends_on [] (unbound t) s a b c xs ys wrote w) (λ ys w. breaks_on [] (unbound t) s a b c xs ys wrote w) stops

pub evaluated_stops : {R : Type 0} (leaves : R → List Reading → Type 0) (t : BoundTree) (s : LogicalType) (start mid : R) (a b c : Option (List Datum)) (e : RecordsError) (xs : List Record)
    → Reads (leaves start) (leaves mid) xs → Gains a b (meanings (unbound t) s xs)
    → Stops leaves t mid e (λ rs. Gains b c (meanings (unbound t) s rs)) (λ rs. Unit {0})
    → Stops leaves t start e (λ rs. Gains a c (meanings (unbound t) s rs)) (λ rs. Unit {0})
evaluated_stops leaves t s start mid a b c e xs before wrote stops =
    stops_on leaves t start mid e xs (λ rs. Gains b c (meanings (unbound t) s rs)) (λ rs. Unit {0})
    (λ rs. Gains a c (meanings (unbound t) s rs)) (λ rs. Unit {0})
    before (λ ys w. gains_on (unbound t) s a b c xs ys wrote w) (λ ys w. tt) stops

pub selected_stops : {R : Type 0} (leaves : R → List Reading → Type 0) (t v : BoundTree) (s : LogicalType) (start mid : R) (a b c : Option (List Datum)) (e : SelectError) (xs : List Record)
    → Reads (leaves start) (leaves mid) xs → Gains a b (meanings (unbound v) s (kept (unbound t) s xs))
    → StopsSelecting leaves t v s mid e (λ rs. Gains b c (meanings (unbound v) s (kept (unbound t) s rs)))
    → StopsSelecting leaves t v s start e (λ rs. Gains a c (meanings (unbound v) s (kept (unbound t) s rs)))
selected_stops leaves t v s start mid a b c e xs before wrote stops =
    selecting_on leaves t v s start mid e xs (λ rs. Gains b c (meanings (unbound v) s (kept (unbound t) s rs)))
    (λ rs. Gains a c (meanings (unbound v) s (kept (unbound t) s rs)))
    before (λ ys w. gains_kept (unbound t) (unbound v) s a b c xs ys wrote w) stops

-- what is said of the records that were gone over
pub ends_map : {R : Type 0} (leaves : R → List Reading → Type 0) (n : ℕ) (before after : R) (Wrote Wrote' : List Record → Type 0) → ((rs : List Record) → Wrote rs → Wrote' rs) → EndsRecords leaves n before after Wrote → EndsRecords leaves n before after Wrote'
ends_map leaves n before after Wrote Wrote' f (rs, reads, w) = (rs, reads, f rs w)

-- the lines behind a heading
pub ends_behind : {R : Type 0} (leaves : R → List Reading → Type 0) (n : ℕ) (before after : R) (a b c : Option (List ℕ)) (head : List ℕ) (e : Tree) (s : LogicalType)
    → Appends a b head → EndsRecords leaves n before after (λ rs. Appends b c (kept_lines e s rs)) → EndsRecords leaves n before after (λ rs. Appends a c (head ++ kept_lines e s rs))
ends_behind leaves n before after a b c head e s first = ends_map leaves n before after (λ rs. Appends b c (kept_lines e s rs)) (λ rs. Appends a c (head ++ kept_lines e s rs)) (λ rs w. Appends-trans a b c head _ first w)

pub stops_behind : {R : Type 0} (leaves : R → List Reading → Type 0) (t : BoundTree) (s : LogicalType) (start : R) (a b c : Option (List ℕ)) (head : List ℕ) (e : RecordsError)
    → Appends a b head
    → Stops leaves t start e (λ rs. Appends b c (kept_lines (unbound t) s rs)) (λ rs. Breaks b c (kept_lines (unbound t) s rs))
    → Stops leaves t start e (λ rs. Appends a c (head ++ kept_lines (unbound t) s rs)) (λ rs. Breaks a c (head ++ kept_lines (unbound t) s rs))
stops_behind leaves t s start a b c head e first stops =
    stops_on leaves t start start e [] (λ rs. Appends b c (kept_lines (unbound t) s rs)) (λ rs. Breaks b c (kept_lines (unbound t) s rs))
    (λ rs. Appends a c (head ++ kept_lines (unbound t) s rs)) (λ rs. Breaks a c (head ++ kept_lines (unbound t) s rs))
    (reads_none (leaves start)) (λ ys w. Appends-trans a b c head _ first w) (λ ys w. breaks_behind a b c head _ first w) stops
