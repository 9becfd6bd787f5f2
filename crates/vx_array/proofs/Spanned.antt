-- Bytes of rows that lie in one buffer.
use Rattle.std.proofs.Common.{◌≡◌, ℕ, ◌+◌, ◌-◌, ◌<◌, ◌≤◌, List, length, get_or, take, drop, sym, ap, ◌∙◌, arith, length-take, length-drop, min, ⊎_elim}
use Rattle.std.proofs.lemmas.Bool.{cases_lt}
use Rattle.std.proofs.lemmas.List.{same_lists, get_or-take, get_or-drop}
use Rattle.std.proofs.lemmas.List.FromFn.{length-map-range_with_len, get_or-map-range_with_len}
use Rattle.vx_array.specs.declared.spans.Spans.{Spans}
use Rattle.vx_array.specs.Kinds.{span_at, spans_in}

pub length_spans : (s : Spans) → length (spans_in s) ≡ length s.offsets - 1
length_spans s = length-map-range_with_len (span_at s.offsets s.bytes.value.items) 0 (length s.offsets - 1)

get_or-spans : (s : Spans) (k : ℕ) (d : List ℕ) → k < length s.offsets - 1 → get_or (spans_in s) k d ≡ span_at s.offsets s.bytes.value.items k
get_or-spans s k d lt = get_or-map-range_with_len (span_at s.offsets s.bytes.value.items) 0 (length s.offsets - 1) k k d lt (omega arith)

-- the bytes of a row that are read
pub span_read : (s : Spans) (k : ℕ) (offsets bytes r : List ℕ) → r ≡ span_at offsets bytes k → offsets ≡ s.offsets → bytes ≡ s.bytes.value.items → k < length (spans_in s) → r ≡ get_or (spans_in s) k r
span_read s k offsets bytes r is these those lt =
    let within : k < length s.offsets - 1 = omega (arith, length_spans s) in
    is ∙ ap (λ l. span_at l bytes k) these ∙ ap (λ l. span_at s.offsets l k) those ∙ sym (get_or-spans s k r within)

-- so many rows from one on
pub span_part : (s t : Spans) (from len : ℕ) → t.offsets ≡ take (len + 1) (drop from s.offsets) → t.bytes.value.items ≡ s.bytes.value.items → from + len < length s.offsets → spans_in t ≡ take len (drop from (spans_in s))
span_part s t from len cut same room =
    same_lists (spans_in t) (take len (drop from (spans_in s))) (long ∙ sym (simp (length-take, length-drop) (omega (arith, length_spans s))))
    (λ k d lt.
    let low : k < len = omega (arith, long) in
    let here : k < length t.offsets - 1 = omega (arith, length_spans t) in
    let there : from + k < length s.offsets - 1 = omega arith in
    get_or-spans t k d here ∙ moved k low ∙ sym (get_or-take len (drop from (spans_in s)) k d low ∙ get_or-drop from (spans_in s) k d ∙ get_or-spans s (from + k) d there))
  where
    many : length t.offsets ≡ len + 1
    many = ap length cut ∙ simp (length-take, length-drop) (omega arith)

    long : length (spans_in t) ≡ len
    long = omega (arith, length_spans t, many)

    offset : (k : ℕ) → k < len + 1 → get_or t.offsets k 0 ≡ get_or s.offsets (from + k) 0
    offset k lt = ap (λ l. get_or l k 0) cut ∙ get_or-take (len + 1) (drop from s.offsets) k 0 lt ∙ get_or-drop from s.offsets k 0

    moved : (k : ℕ) → k < len → span_at t.offsets t.bytes.value.items k ≡ span_at s.offsets s.bytes.value.items (from + k)
    moved k lt =
        let next : from + (k + 1) ≡ (from + k) + 1 = omega arith in
        ap (λ l. span_at t.offsets l k) same ∙ ap (λ n. take (get_or t.offsets (k + 1) 0 - n) (drop n s.bytes.value.items)) (offset k (omega arith))
        ∙ ap (λ n. take (n - get_or s.offsets (from + k) 0) (drop (get_or s.offsets (from + k) 0) s.bytes.value.items)) (offset (k + 1) (omega arith) ∙ ap (λ n. get_or s.offsets n 0) next)

-- the same, whether there are offsets at all or not
pub span_slice : (s t : Spans) (from len count : ℕ) → count ≡ min (length s.offsets - from) (len + 1) → t.offsets ≡ take count (drop from s.offsets) → t.bytes.value.items ≡ s.bytes.value.items → from + len ≤ length (spans_in s) → spans_in t ≡ take len (drop from (spans_in s))
span_slice s t from len count many cut same le = ⊎_elim none some (cases_lt (from + len) (length s.offsets))
  where
    none : from + len < length s.offsets → spans_in t ≡ take len (drop from (spans_in s))
    none room =
        let all : count ≡ len + 1 = omega arith in
        span_part s t from len (cut ∙ ap (λ n. take n (drop from s.offsets)) all) same room

    some : length s.offsets ≤ from + len → spans_in t ≡ take len (drop from (spans_in s))
    some past =
        let empty : length s.offsets ≡ 0 = omega (arith, length_spans s) in
        let nothing : length t.offsets ≡ 0 = ap length cut ∙ simp (length-take, length-drop) (omega arith) in
        same_lists (spans_in t) (take len (drop from (spans_in s))) (omega (arith, length_spans t, length_spans s, length-take len (drop from (spans_in s)), length-drop from (spans_in s))) (λ k d lt. absurd (omega (arith, length_spans t)))
