-- Rows that are written over in place, or put behind others.
use Rattle.std.proofs.Common.{◌≡◌, ◌≢◌, ℕ, ◌+◌, ◌<◌, ◌≤◌, List, [], ◌∷◌, ◌++◌, map, length, get_or, sym, ap, ◌∙◌, arith, append_assoc, Bool, true, false, below_more, get_or-set_other, get_or-set_same}
use Rattle.std.specs.Prelude.{if◌then◌else◌}
use Rattle.std.proofs.Math.ListN.{set}
use Rattle.std.proofs.lemmas.List.{map-set, length-map, length-set, get_or-map, map-append}
use Rattle.std.proofs.lemmas.List.FromFn.{map-range_with_len_more}
use Rattle.vx_value.specs.Types.{Datum, null}
use Rattle.vx_value.specs.declared.value.Value.{Value}
use Rattle.vx_value.specs.Views.{value_of}
use Rattle.vx_eval_masks.specs.Merges.{values_of, each_row, IsWritten, StaysFrom}

-- ---- values that are taken out

pub taken_is : (before : List Datum) (vs : List Value) (i : ℕ) (v : Value) → StaysFrom i before (values_of vs) → i < length vs → v ≡ get_or vs i v → value_of v ≡ get_or before i null
taken_is before vs i v left within is = ap value_of is ∙ sym (get_or-map value_of vs i v null within) ∙ left i (omega arith)

pub left_more : (before : List Datum) (vs : List Value) (i : ℕ) (x : Value) → StaysFrom i before (values_of vs) → StaysFrom (i + 1) before (values_of (set vs i x))
left_more before vs i x left = λ k h. let apart : k ≢ i = omega arith in rw (map-set, get_or-set_other) (left k (omega arith))

-- ---- rows that are written over

-- the first i rows are written over by what g makes of them
pub record Written (g : ℕ → Datum → Datum) (before : List Datum) (i : ℕ) (now : List Datum) : Type 0 where
  pub long : length now ≡ length before
  pub done : (k : ℕ) → k < i → get_or now k null ≡ g k (get_or before k null)
  pub rest : StaysFrom i before now

pub written_more : (g : ℕ → Datum → Datum) (before : List Datum) (vs : List Value) (i : ℕ) (v : Value) → Written g before i (values_of vs) → i < length vs → value_of v ≡ g i (get_or before i null) → Written g before (i + 1) (values_of (set vs i v))
written_more g before vs i v w within made =
    let size : length (values_of vs) ≡ length vs = length-map vs value_of in
    let inside : i < length (values_of vs) = omega arith in
    record {
      long = ap length (map-set value_of vs i v) ∙ length-set (values_of vs) i (value_of v) ∙ w.long;
      done = below_more (λ k. get_or (values_of (set vs i v)) k null ≡ g k (get_or before k null)) i
          (λ k h. let apart : k ≢ i = omega arith in rw (map-set, get_or-set_other) (w.done k h))
          (rw (map-set, get_or-set_same) made);
      rest = left_more before vs i v w.rest;
    }

-- what g gives at the rows that are in the mask, and the others as they are
abbrev pub in_mask : List Bool → (ℕ → Datum) → ℕ → Datum → Datum
in_mask m g k d = if get_or m k false then g k else d

-- a row that stays
pub written_kept : (m : List Bool) (g : ℕ → Datum) (before now : List Datum) (i : ℕ) → Written (in_mask m g) before i now → get_or m i false ≡ false → Written (in_mask m g) before (i + 1) now
written_kept m g before now i w off =
    record {
      long = w.long;
      done = below_more (λ k. get_or now k null ≡ in_mask m g k (get_or before k null)) i w.done (w.rest i (omega arith) ∙ sym (ap (λ b. if b then g i else get_or before i null) off));
      rest = λ k h. w.rest k (omega arith);
    }

-- a row that is written
pub written_put : (m : List Bool) (g : ℕ → Datum) (before : List Datum) (vs : List Value) (i : ℕ) (v : Value) → Written (in_mask m g) before i (values_of vs) → i < length vs → get_or m i false ≡ true → value_of v ≡ g i →
    Written (in_mask m g) before (i + 1) (values_of (set vs i v))
written_put m g before vs i v w within on is = written_more (in_mask m g) before vs i v w within (is ∙ sym (ap (λ b. if b then g i else get_or before i null) on))

-- all rows
pub written_done : (m : List Bool) (g : ℕ → Datum) (us vs : List Value) (i : ℕ) → Written (in_mask m g) (values_of us) i (values_of vs) → length us ≤ i → IsWritten m g (values_of us) (values_of vs)
written_done m g us vs i w all = let size : length (values_of us) ≡ length us = length-map us value_of in record { long = w.long; at = λ k h. w.done k (omega arith) }

-- ---- rows that are put behind others

-- one more row behind those that are there, at the loop's index
pub row_behind : {A : Type 0} (f : A → Datum) (h : ℕ → Datum) (there : List Datum) (out new : List A) (i : ℕ) (v : A) → map f out ≡ there ++ each_row i h → new ≡ out ++ v ∷ [] → f v ≡ h i → map f new ≡ there ++ each_row (i + 1) h
row_behind f h there out new i v so_far pushed here =
    ap (map f) pushed ∙ map-append f out (v ∷ []) ∙ ap (λ ds. ds ++ f v ∷ []) so_far ∙ append_assoc there (each_row i h) (f v ∷ [])
    ∙ ap (λ d. there ++ (each_row i h ++ d ∷ [])) here ∙ ap (λ l. there ++ l) (sym (map-range_with_len_more h 0 i i (omega arith)))

pub row_pushed : {A : Type 0} (f : A → Datum) (h : ℕ → Datum) (out new : List A) (i : ℕ) (v : A) → map f out ≡ each_row i h → new ≡ out ++ v ∷ [] → f v ≡ h i → map f new ≡ each_row (i + 1) h
row_pushed f h out new i v so_far pushed here = row_behind f h [] out new i v so_far pushed here

-- the mask goes on for one row more
pub on_more : (m : List Bool) (from i : ℕ) → ((k : ℕ) → from ≤ k → k < i → get_or m k false ≡ true) → get_or m i false ≡ true → (k : ℕ) → from ≤ k → k < i + 1 → get_or m k false ≡ true
on_more m from i on here k lo hi = below_more (λ k. from ≤ k → get_or m k false ≡ true) i (λ k h low. on k low h) (λ low. here) k hi lo

-- a value that is moved is the one that is meant
pub moved_is : (before : List Datum) (vs : List Value) (i : ℕ) (v : Value) (d : Datum) → StaysFrom i before (values_of vs) → i < length vs → v ≡ get_or vs i v → get_or before i null ≡ d → value_of v ≡ d
moved_is before vs i v d left within is means = taken_is before vs i v left within is ∙ means
