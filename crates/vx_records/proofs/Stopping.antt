-- What stops behind some records, seen from before them.
use Rattle.std.proofs.Common.{◌≡◌, ℕ, List, ◌++◌, ◌∷◌, [], length, subst, sym, ap, ◌∙◌, append_assoc, Bool, nat_lt, Option, None, Some, Result, Ok, Err, IfOk, IfErr, true, false, ◌+◌, ◌-◌, ◌<◌, ◌≤◌, inl, inr, arith, length-append}
use Rattle.vx_value.specs.Types.{Datum}
use Rattle.vx_data.specs.declared.error.DataError.{DataError}
use Rattle.vx_data.specs.declared.error.DataError.TheVariants.{OutOfMemory as NoRoom, Read, Unexpected}
use Rattle.vx_records.specs.Chunks.{AreNext, IsFaultOver, IsFaultThere, IsLast, IsOfWriting, IsStep, IsStopError, stop_error}
use Rattle.vx_tree.specs.Trees.{BoundTree}
use Rattle.vx_records.specs.Outcomes.{EndsRecords, Stops}
use Rattle.vx_records.specs.Reading.{Reading, Reads, ReadsUpTo, Refuses, given}
use Rattle.vx_records.specs.Records.{Record, rows}
use Rattle.vx_records.specs.declared.error.RecordsError.{RecordsError}
use Rattle.vx_records.specs.declared.error.RecordsError.TheVariants.{OutOfMemory, Data, Fault, Write}
use Rattle.vx_records.proofs.Going.{ends_on, leads_on, reads_none, reads_on, until_on}

pub stops_on : {R : Type 0} (leaves : R → List Reading → Type 0) (b : BoundTree) (start cur : R) (e : RecordsError) (xs : List Record) (Wrote Broke Wrote' Broke' : List Record → Type 0)
    → Reads (leaves start) (leaves cur) xs → ((ys : List Record) → Wrote ys → Wrote' (xs ++ ys)) → ((ys : List Record) → Broke ys → Broke' (xs ++ ys))
    → Stops leaves b cur e Wrote Broke → Stops leaves b start e Wrote' Broke'
stops_on leaves b start cur OutOfMemory xs _ _ _ _ before wrote broke (mid, rs, reads, w) = (mid, xs ++ rs, reads_on (leaves start) (leaves cur) (leaves mid) xs rs before reads, wrote rs w)
stops_on leaves b start cur (Data d) xs _ _ _ _ before wrote broke (mid, rs, until, w) = (mid, xs ++ rs, until_on (leaves start) (leaves cur) (leaves mid) xs rs d before until, wrote rs w)
stops_on leaves b start cur (Write d) xs _ _ _ _ before wrote broke (mid, rs, reads, w) = (mid, xs ++ rs, reads_on (leaves start) (leaves cur) (leaves mid) xs rs before reads, broke rs w)
stops_on leaves b start cur (Fault f) xs _ _ _ _ before wrote broke (mid, done, rs, reads, w, fault) =
    (mid, xs ++ done, rs, subst (Reads (leaves start) (leaves mid)) (sym (append_assoc xs done rs)) (reads_on (leaves start) (leaves cur) (leaves mid) xs (done ++ rs) before reads), wrote done w, fault)

-- the next records lead somewhere
pub next_reads : {R : Type 0} (leaves : R → List Reading → Type 0) (n : ℕ) (before after : R) (stop : Option DataError) (rs : List Record) → AreNext leaves n before after stop rs → (mid : R) × Reads (leaves before) (leaves mid) rs
next_reads leaves n before after None rs (reads, _) = (after, reads)
next_reads leaves n before after (Some e) rs (mid, reads, refuses) = (mid, reads)

-- what stops before anything is written
pub stops_first : {R : Type 0} (leaves : R → List Reading → Type 0) (b : BoundTree) (before : R) (e : RecordsError) (Wrote Broke : List Record → Type 0) → Wrote [] → IsFaultThere leaves b before e → Stops leaves b before e Wrote Broke
stops_first leaves b before OutOfMemory Wrote Broke wrote there = (before, [], reads_none (leaves before), wrote)
stops_first leaves b before (Data d) Wrote Broke wrote there = absurd there
stops_first leaves b before (Write w) Wrote Broke wrote there = absurd there
stops_first leaves b before (Fault f) Wrote Broke wrote (mid, rs, reads, fault) = (mid, [], rs, reads, wrote, fault)

-- what stops when the next records are written
pub stops_next : {R : Type 0} (leaves : R → List Reading → Type 0) (b : BoundTree) (n : ℕ) (before after : R) (stop : Option DataError) (e : RecordsError) (rs : List Record) (Wrote Broke : List Record → Type 0) → AreNext leaves n before after stop rs → Wrote rs → IsStopError stop e → Stops leaves b before e Wrote Broke
stops_next leaves b n before after None e rs Wrote Broke next wrote told = absurd told
stops_next leaves b n before after (Some stop) e rs Wrote Broke (mid, reads, refuses) wrote told = subst (λ e. Stops leaves b before e Wrote Broke) (sym told) (go stop refuses)
  where
    go : (d : DataError) → Refuses (leaves mid) (leaves after) d → Stops leaves b before (stop_error d) Wrote Broke
    go NoRoom refuses = (mid, rs, reads, wrote)
    go (Read e) refuses = (after, rs, leads_on (leaves before) (leaves mid) (leaves after) (given rs) (Err (Read e) ∷ []) reads refuses, wrote)
    go (Unexpected line at expected) refuses = (after, rs, leads_on (leaves before) (leaves mid) (leaves after) (given rs) (Err (Unexpected line at expected) ∷ []) reads refuses, wrote)

-- a fault over the rows of the next records
pub fault_there : {R : Type 0} (leaves : R → List Reading → Type 0) (b : BoundTree) (n : ℕ) (before after : R) (stop : Option DataError) (e : RecordsError) (vs : List Datum) (rs : List Record) → AreNext leaves n before after stop rs → vs ≡ rows rs → IsFaultOver b vs e → IsFaultThere leaves b before e
fault_there leaves b n before after stop OutOfMemory vs rs next same over = tt
fault_there leaves b n before after stop (Data d) vs rs next same over = absurd over
fault_there leaves b n before after stop (Write w) vs rs next same over = absurd over
fault_there leaves b n before after stop (Fault f) vs rs next same over = let (mid, reads) = next_reads leaves n before after stop rs next in (mid, rs, reads, subst (λ us. IsFaultOver b us (Fault f)) same over)

-- the next records are a step, where nothing stopped reading
pub step_next : {R : Type 0} (leaves : R → List Reading → Type 0) (n : ℕ) (before after : R) (stop : Option DataError) (last : Bool) (m : ℕ) (rs : List Record) (Wrote : List Record → Type 0) → AreNext leaves n before after stop rs → IsLast stop m n last → m ≡ length rs → Wrote rs → IsStep leaves n before after last Wrote
step_next leaves n before after None last m rs Wrote next is same wrote = (rs, next, is ∙ ap (λ m. nat_lt m n) same, wrote)
step_next leaves n before after (Some e) last m rs Wrote next is same wrote = absurd is

-- what is said where a call succeeds, or is refused
pub ok_map : {A E : Type 0} (r : Result A E) (P Q : A → Type 0) → ((a : A) → P a → Q a) → IfOk r P → IfOk r Q
ok_map (Ok a) P Q f h = f a h
ok_map (Err e) P Q f h = tt

pub err_map : {A E : Type 0} (r : Result A E) (P Q : E → Type 0) → ((e : E) → P e → Q e) → IfErr r P → IfErr r Q
err_map (Ok a) P Q f h = tt
err_map (Err e) P Q f h = f e h

-- what a `?` hands on
pub on_failed : {A E : Type 0} (r : Result A E) (e : E) (P : E → Type 0) → r ≡ Err e → P e → IfErr r P
on_failed r e P is h = subst (λ r. IfErr r P) (sym is) h

are_last : (n : ℕ) (a b : List Reading → Type 0) (ys : List Record) → ReadsUpTo n a b ys → nat_lt (length ys) n ≡ true → (length ys < n) × a (given ys)
are_last n a b ys (reads, inl full) short = absurd (search (arith, full, short))
are_last n a b ys (reads, inr ends) short = ends

are_full : (n : ℕ) (a b : List Reading → Type 0) (ys : List Record) → ReadsUpTo n a b ys → nat_lt (length ys) n ≡ false → length ys ≡ n
are_full n a b ys (reads, inl full) long = full
are_full n a b ys (reads, inr (short, ends)) long = absurd (search (arith, short, long))

-- of a step so many records at most are said something, and just so many where they aren't the last
pub step_few : {R : Type 0} (leaves : R → List Reading → Type 0) (n : ℕ) (before after : R) (last : Bool) (Wrote : List Record → Type 0) → IsStep leaves n before after last Wrote → IsStep leaves n before after last (λ rs. (length rs ≤ n) × Wrote rs)
step_few leaves n before after last Wrote (rs, (reads, inl full), is, w) = (rs, (reads, inl full), is, (omega arith, w))
step_few leaves n before after last Wrote (rs, (reads, inr (short, ends)), is, w) = (rs, (reads, inr (short, ends)), is, (omega arith, w))

pub step_full : {R : Type 0} (leaves : R → List Reading → Type 0) (n : ℕ) (before after : R) (last : Bool) (Wrote : List Record → Type 0) → last ≡ false → IsStep leaves n before after last Wrote → IsStep leaves n before after last (λ rs. (length rs ≡ n) × Wrote rs)
step_full leaves n before after last Wrote more (rs, next, is, w) = (rs, next, is, (are_full n (leaves before) (leaves after) rs next (sym is ∙ more), w))

-- behind some records, the last ones
pub ends_all : {R : Type 0} (leaves : R → List Reading → Type 0) (limit left n : ℕ) (start cur new : R) (last : Bool) (xs : List Record) (Wrote Wrote' : List Record → Type 0)
    → length xs + left ≡ limit → n ≤ left → Reads (leaves start) (leaves cur) xs → ((ys : List Record) → Wrote ys → Wrote' (xs ++ ys)) → last ≡ true → IsStep leaves n cur new last Wrote → EndsRecords leaves limit start new Wrote'
ends_all leaves limit left n start cur new last xs Wrote Wrote' count most before wrote is (ys, next, short, w) =
    let (few, all) = are_last n (leaves cur) (leaves new) ys next (sym short ∙ is) in
    let under : length (xs ++ ys) < limit = subst (λ l. l < limit) (sym (length-append xs ys)) (search (arith, count, most, few)) in
    (xs ++ ys, (reads_on (leaves start) (leaves cur) (leaves new) xs ys before next.0, inr (under, ends_on (leaves start) (leaves cur) xs ys before all)), wrote ys w)

-- behind some records, as many more as were asked for
pub goes_on : {R : Type 0} (leaves : R → List Reading → Type 0) (limit left n : ℕ) (start cur new : R) (last : Bool) (xs : List Record) (Wrote Wrote' : List Record → Type 0)
    → length xs + left ≡ limit → n ≤ left → Reads (leaves start) (leaves cur) xs → ((ys : List Record) → Wrote ys → Wrote' (xs ++ ys)) → last ≡ false → IsStep leaves n cur new last Wrote
    → (zs : List Record) × (length zs + (left - n) ≡ limit) × Reads (leaves start) (leaves new) zs × Wrote' zs
goes_on leaves limit left n start cur new last xs Wrote Wrote' count most before wrote is (ys, next, long, w) =
    let full = are_full n (leaves cur) (leaves new) ys next (sym long ∙ is) in
    let sum : length (xs ++ ys) + (left - n) ≡ limit = ap (λ l. l + (left - n)) (length-append xs ys) ∙ search (arith, count, most, full) in
    (xs ++ ys, sum, reads_on (leaves start) (leaves cur) (leaves new) xs ys before next.0, wrote ys w)

-- what stops where the writer fails, seen from before the records
pub stops_broken : {R : Type 0} (leaves : R → List Reading → Type 0) (b : BoundTree) (before mid : R) (e : RecordsError) (rs : List Record) (Wrote Broke : List Record → Type 0) → Reads (leaves before) (leaves mid) rs → Broke rs → IsOfWriting e → Stops leaves b before e Wrote Broke
stops_broken leaves b before mid (Write w) rs Wrote Broke reads broke is = (mid, rs, reads, broke)
stops_broken leaves b before mid OutOfMemory rs Wrote Broke reads broke is = absurd is
stops_broken leaves b before mid (Data d) rs Wrote Broke reads broke is = absurd is
stops_broken leaves b before mid (Fault f) rs Wrote Broke reads broke is = absurd is
