-- Records in chunks, one after another, and their tally.
use Rattle.std.proofs.Common.{◌≡◌, ℕ, zero, suc, ◌+◌, ◌-◌, ◌*◌, ◌<◌, ◌≤◌, ◌/◌, ◌%◌, ◌++◌, ◌∷◌, ◌⊎◌, inl, inr, Bool, true, false, cond, if◌then◌else◌, List, [], min, map, length, take, drop, count_by, Option, None, Some, Ok, refl, sym, subst, ap, ◌∙◌, arith}
use Rattle.std.specs.Fork.{slice_chunk}
use Rattle.std.specs.Int.{div_ceil}
use Rattle.std.specs.List.{range_with_len}
use Rattle.std.proofs.Math.Nat.{mul-div_cancel, mul-le-mul_right, mod-eq-sub-div-mul}
use Rattle.std.proofs.lemmas.Nat.{div-mul-add}
use Rattle.std.proofs.lemmas.List.{append-nil, length-append, take-append-le, drop-append-le, drop_at, take_all, length-drop}
use Rattle.std.proofs.lemmas.List.FromFn.{length-map-range_with_len, map-range_with_len_more}
use Rattle.std.proofs.lemmas.List.Sums.{sum_by-append}
use Rattle.vx_dtype.specs.declared.error.VortexError.{VortexError}
use Rattle.vx_value.specs.Columns.{Batch}
use Rattle.vx_value.specs.Paths.{Path, minimal_paths}
use Rattle.vx_value.specs.Types.{LogicalType}
use Rattle.vx_tree.specs.Trees.{BoundTree}
use Rattle.vx_rewrite_paths.specs.Asked.{referenced}
use Rattle.vx_projection.specs.Lost.{unless_lost}
use Rattle.vx_prune_tree.specs.Reading.{facts_along}
use Rattle.vx_prune_tree.specs.Stats.{Facts}
use Rattle.vx_prune_tree.specs.Verdicts.{verdict_in}
use Rattle.vx_prune_tree.specs.declared.verdicts.Verdict.{Verdict}
use Rattle.vx_records.specs.Chunks.{HasRecords}
use Rattle.vx_records.specs.Records.{Record}
use Rattle.vx_records.specs.Tallies.{chunk_tally, chunks_of, is_open, tally, tally_by, tally_of, verdict_on}
use Rattle.vx_records.specs.declared.batches.RecordBatch.{RecordBatch}
use Rattle.vx_records.specs.declared.chunked.ChunkTally.{ChunkTally}

-- so many full chunks are so many
full_count : (n k : ℕ) → 0 < n → div_ceil (k * n) n ≡ k
full_count n k some =
    let parts : k * n / n ≡ k = mul-div_cancel k some in
    let rest : k * n % n ≡ 0 = mod-eq-sub-div-mul (k * n) n ∙ ap (λ q. k * n - q * n) parts ∙ omega arith in
    omega (arith, parts, rest)

-- and one more where some are left
more_count : (n k m : ℕ) → 0 < m → m ≤ n → div_ceil (k * n + m) n ≡ k + 1
more_count n k m left few = go (search (arith, few))
  where
    go : (m < n) ⊎ (m ≡ n) → div_ceil (k * n + m) n ≡ k + 1
    go (inl less) =
        let parts : (k * n + m) / n ≡ k = div-mul-add k n m less in
        let rest : (k * n + m) % n ≡ m = mod-eq-sub-div-mul (k * n + m) n ∙ ap (λ q. k * n + m - q * n) parts ∙ omega arith in
        omega (arith, parts, rest)
    go (inr same) = ap (λ l. div_ceil l n) (omega arith) ∙ full_count n (k + 1) (omega arith)

-- the chunks of some before others, where they are full
before : (n k i : ℕ) (xs ys : List Record) → length xs ≡ k * n → i < k → slice_chunk (xs ++ ys) n i ≡ slice_chunk xs n i
before n k i xs ys full below =
    let within : (i + 1) * n ≤ k * n = mul-le-mul_right n (omega arith) in
    let enough : i * n + n ≤ length xs = omega arith in
    ap (take n) (drop-append-le (i * n) xs ys (omega arith)) ∙ take-append-le n (drop (i * n) xs) ys (omega (arith, length-drop (i * n) xs))

-- and the one behind
behind : (n k : ℕ) (xs ys : List Record) → length xs ≡ k * n → length ys ≤ n → slice_chunk (xs ++ ys) n k ≡ ys
behind n k xs ys full few = ap (take n) (drop_at xs ys (k * n) full) ∙ take_all n ys few

-- two functions that agree up to there
agreeing : {A : Type 0} (f g : ℕ → A) (a k : ℕ) → ((i : ℕ) → i < a + k → f i ≡ g i) → map f (range_with_len a k) ≡ map g (range_with_len a k)
agreeing f g a zero same = refl
agreeing f g a (suc k) same = ap (λ x. x ∷ map f (range_with_len (a + 1) k)) (same a (omega arith)) ∙ ap (λ l. g a ∷ l) (agreeing f g (a + 1) k (λ i below. same i (omega arith)))

-- chunks of some, and one more behind them
chunks_on : (n k : ℕ) (xs ys : List Record) → length xs ≡ k * n → 0 < length ys → length ys ≤ n → chunks_of n (xs ++ ys) ≡ chunks_of n xs ++ ys ∷ []
chunks_on n k xs ys full some few =
    let one_more : div_ceil (length (xs ++ ys)) n ≡ k + 1 = ap (λ l. div_ceil l n) (length-append xs ys ∙ ap (λ l. l + length ys) full) ∙ more_count n k (length ys) some few in
    let so_many : div_ceil (length xs) n ≡ k = ap (λ l. div_ceil l n) full ∙ full_count n k (omega arith) in
    let first = agreeing (slice_chunk (xs ++ ys) n) (slice_chunk xs n) 0 k (λ i below. before n k i xs ys full (omega arith)) in
    ap (λ c. map (slice_chunk (xs ++ ys) n) (range_with_len 0 c)) one_more
    ∙ map-range_with_len_more (slice_chunk (xs ++ ys) n) 0 k k (omega arith)
    ∙ ap (λ l. l ++ slice_chunk (xs ++ ys) n k ∷ []) first
    ∙ ap (λ l. map (slice_chunk xs n) (range_with_len 0 k) ++ l ∷ []) (behind n k xs ys full few)
    ∙ ap (λ c. map (slice_chunk xs n) (range_with_len 0 c) ++ ys ∷ []) (sym so_many)

-- no chunk of none
chunks_none : (n : ℕ) → 0 < n → chunks_of n [] ≡ []
chunks_none n some =
    let empty : 0 * n ≡ 0 = omega arith in
    ap (λ c. map (slice_chunk [] n) (range_with_len 0 c)) (subst (λ l. div_ceil l n ≡ 0) empty (full_count n 0 some))

-- how many full chunks there are
chunks_full : (n k : ℕ) (xs : List Record) → 0 < n → length xs ≡ k * n → length (chunks_of n xs) ≡ k
chunks_full n k xs some full = length-map-range_with_len (slice_chunk xs n) 0 (div_ceil (length xs) n) ∙ ap (λ l. div_ceil l n) full ∙ full_count n k some

-- how many chunks there are with one more, and how many of them pass
counts_on : (p : List Record → Bool) (n k : ℕ) (xs ys : List Record) → length xs ≡ k * n → length ys ≤ n → p [] ≡ false
    → (length (chunks_of n (xs ++ ys)) ≡ length (chunks_of n xs) + min 1 (length ys)) × (count_by p (chunks_of n (xs ++ ys)) ≡ count_by p (chunks_of n xs) + cond (p ys) 1 0)
counts_on p n k xs [] full few none =
    let same = append-nil xs in (
      ap (λ l. length (chunks_of n l)) same ∙ omega arith,
      ap (λ l. count_by p (chunks_of n l)) same ∙ subst (λ b. count_by p (chunks_of n xs) ≡ count_by p (chunks_of n xs) + cond b 1 0) (sym none) (omega arith),
    )
counts_on p n k xs (y ∷ ys) full few none =
    let cut = chunks_on n k xs (y ∷ ys) full (omega arith) few in (
      ap length cut ∙ length-append (chunks_of n xs) ((y ∷ ys) ∷ []) ∙ omega arith,
      ap (count_by p) cut ∙ sum_by-append (λ c. cond (p c) 1 0) (chunks_of n xs) ((y ∷ ys) ∷ []) ∙ omega arith,
    )

-- the tally with one more chunk behind full ones
pub tally_on : (n : ℕ) (b : BoundTree) (s t : LogicalType) (xs ys : List Record) (before one : ChunkTally) → before ≡ tally_of n b s xs → length xs ≡ before.chunks * n → t ≡ s → one ≡ chunk_tally b t ys → length ys ≤ n
    → tally (before.chunks + one.chunks) (before.evaluated + one.evaluated) ≡ tally_of n b s (xs ++ ys)
tally_on n b s t xs ys before one so_far full same is few =
    let (chunks, unsure) = counts_on (λ chunk. is_open (verdict_on b s chunk)) n before.chunks xs ys full few refl in
    let one_is : one ≡ chunk_tally b s ys = is ∙ ap (λ t. chunk_tally b t ys) same in
    ap (λ before. tally (before.chunks + one.chunks) (before.evaluated + one.evaluated)) so_far
    ∙ ap (λ one. tally (length (chunks_of n xs) + one.chunks) (count_by (λ chunk. is_open (verdict_on b s chunk)) (chunks_of n xs) + one.evaluated)) one_is
    ∙ ap (λ chunks. tally chunks (count_by (λ chunk. is_open (verdict_on b s chunk)) (chunks_of n xs) + (if is_open (verdict_on b s ys) then 1 else 0))) (sym chunks)
    ∙ ap (λ unsure. tally (length (chunks_of n (xs ++ ys))) unsure) (sym unsure)

-- of no record
pub tally_none : (n : ℕ) (b : BoundTree) (s : LogicalType) → 0 < n → tally 0 0 ≡ tally_of n b s []
tally_none n b s some = ap (λ chunks. tally (length chunks) (count_by (λ chunk. is_open (verdict_on b s chunk)) chunks)) (sym (chunks_none n some))

-- of a full chunk
pub full_chunk : (n : ℕ) (b : BoundTree) (s : LogicalType) (ys : List Record) (one : ChunkTally) → 0 < n → one ≡ chunk_tally b s ys → length ys ≡ n → one.chunks ≡ 1
full_chunk n b s ys one some is full = ap (λ (t : ChunkTally). t.chunks) is ∙ omega arith

-- with one more full chunk all are full
pub more_full : (n k one m : ℕ) (xs ys : List Record) → length xs ≡ k * n → length ys ≡ m → m ≡ n → one ≡ 1 → length (xs ++ ys) ≡ (k + one) * n
more_full n k one m xs ys full count same is = length-append xs ys ∙ subst (λ one. length xs + length ys ≡ (k + one) * n) (sym is) (omega arith)

-- no chunk without records is evaluated
pub within_chunk : (b : BoundTree) (s : LogicalType) (rs : List Record) (one : ChunkTally) → one ≡ chunk_tally b s rs → one.evaluated ≤ one.chunks
within_chunk b s rs one is = subst (λ (t : ChunkTally). t.evaluated ≤ t.chunks) (sym is) (go rs)
  where
    at_most : (unsure : Bool) → (if unsure then 1 else 0) ≤ 1
    at_most true = omega arith
    at_most false = omega arith

    go : (rs : List Record) → (chunk_tally b s rs).evaluated ≤ (chunk_tally b s rs).chunks
    go [] = omega arith
    go (r ∷ rs) =
        let one_at_most = at_most (is_open (verdict_on b s (r ∷ rs))) in
        omega (arith, one_at_most)

-- what is read off a batch along paths that lead somewhere
pub read_facts : (lost : Option VortexError) (said stats : Facts) → unless_lost lost said ≡ Ok stats → stats ≡ said
read_facts None said stats is = cc
read_facts (Some refusal) said stats is = cc

-- the tally of the records of a batch, where so many were read
pub tally_read : (b : BoundTree) (s : LogicalType) (n : ℕ) (chunk : RecordBatch) (rs : List Record) (c : Batch) (paths : List Path) (verdict : Verdict) (one : ChunkTally)
    → HasRecords chunk s rs → c ≡ chunk.rows.value → paths ≡ referenced b → n ≡ length rs → verdict ≡ verdict_in (facts_along c.type (minimal_paths paths) c.rows) b → one ≡ tally_by n verdict → one ≡ chunk_tally b s rs
tally_read b s n chunk rs c paths verdict one (texts, over) same asked many judged is =
    let judged_rows : verdict ≡ verdict_on b s rs = judged ∙ ap (λ paths. verdict_in (facts_along c.type (minimal_paths paths) c.rows) b) asked
    ∙ ap (λ (c : Batch). verdict_in (facts_along c.type (minimal_paths (referenced b)) c.rows) b) (same ∙ over) in
    is ∙ ap (λ n. tally_by n verdict) many ∙ ap (tally_by (length rs)) judged_rows
