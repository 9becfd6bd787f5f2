-- Two masks, row by row.
use Rattle.std.proofs.Common.{◌≡◌, ◌≢◌, ℕ, ◌+◌, ◌<◌, ◌≤◌, List, [], ◌∷◌, ◌++◌, length, get_or, drop, refl, sym, ap, ◌∙◌, arith, zero, suc, Bool, true, false, ◌&&◌, not, append_assoc, below_more, get_or-set_other, get_or-set_same}
use Rattle.std.proofs.Math.ListN.{set}
use Rattle.std.proofs.lemmas.List.{append-nil, drop_more, drop_all, ext_get_or, length-set}
use Rattle.vx_eval_masks.specs.Masks.{both, but}

and_false : (b : Bool) → false ≡ (b && false)
and_false true = refl
and_false false = refl

pub get_or-both : (a b : List Bool) (k : ℕ) → get_or (both a b) k false ≡ (get_or a k false && get_or b k false)
get_or-both [] b k = refl
get_or-both (a ∷ m) [] k = and_false (get_or (a ∷ m) k false)
get_or-both (a ∷ m) (b ∷ o) zero = refl
get_or-both (a ∷ m) (b ∷ o) (suc k) = get_or-both m o k

pub get_or-but : (a b : List Bool) (k : ℕ) → length b ≡ length a → get_or (but a b) k false ≡ (get_or a k false && not (get_or b k false))
get_or-but [] b k e = refl
get_or-but (a ∷ m) [] k e = absurd (omega arith)
get_or-but (a ∷ m) (b ∷ o) zero e = refl
get_or-but (a ∷ m) (b ∷ o) (suc k) e = get_or-but m o k (omega arith)

pub length-both : (a b : List Bool) → length b ≡ length a → length (both a b) ≡ length a
length-both [] b e = refl
length-both (a ∷ m) [] e = absurd (omega arith)
length-both (a ∷ m) (b ∷ o) e = ap suc (length-both m o (omega arith))

pub length-but : (a b : List Bool) → length b ≡ length a → length (but a b) ≡ length a
length-but [] b e = refl
length-but (a ∷ m) [] e = absurd (omega arith)
length-but (a ∷ m) (b ∷ o) e = ap suc (length-but m o (omega arith))

-- ---- made anew

pub both_pushed : (m o made new : List Bool) (i : ℕ) (b : Bool) → made ++ both (drop i m) (drop i o) ≡ both m o → i < length m → length o ≡ length m → b ≡ (get_or m i false && get_or o i false) → new ≡ made ++ b ∷ [] →
    new ++ both (drop (i + 1) m) (drop (i + 1) o) ≡ both m o
both_pushed m o made new i b so_far within long is pushed =
    let first : drop i m ≡ get_or m i false ∷ drop (i + 1) m = drop_more m i false within in
    let second : drop i o ≡ get_or o i false ∷ drop (i + 1) o = drop_more o i false (omega arith) in
    let step : both (drop i m) (drop i o) ≡ (get_or m i false && get_or o i false) ∷ both (drop (i + 1) m) (drop (i + 1) o) = ap (λ x. both x (drop i o)) first ∙ ap (both (get_or m i false ∷ drop (i + 1) m)) second in
    let rest = both (drop (i + 1) m) (drop (i + 1) o) in
    ap (λ l. l ++ rest) pushed ∙ append_assoc made (b ∷ []) rest ∙ ap (λ x. made ++ x ∷ rest) is ∙ ap (λ l. made ++ l) (sym step) ∙ so_far

pub both_ended : (m o made : List Bool) (i : ℕ) → made ++ both (drop i m) (drop i o) ≡ both m o → length m ≤ i → both m o ≡ made
both_ended m o made i so_far all = sym so_far ∙ ap (λ l. made ++ both l (drop i o)) (drop_all i m all) ∙ append-nil made

pub but_pushed : (m o made new : List Bool) (i : ℕ) (b : Bool) → made ++ but (drop i m) (drop i o) ≡ but m o → i < length m → length o ≡ length m → b ≡ (get_or m i false && not (get_or o i false)) → new ≡ made ++ b ∷ [] →
    new ++ but (drop (i + 1) m) (drop (i + 1) o) ≡ but m o
but_pushed m o made new i b so_far within long is pushed =
    let first : drop i m ≡ get_or m i false ∷ drop (i + 1) m = drop_more m i false within in
    let second : drop i o ≡ get_or o i false ∷ drop (i + 1) o = drop_more o i false (omega arith) in
    let step : but (drop i m) (drop i o) ≡ (get_or m i false && not (get_or o i false)) ∷ but (drop (i + 1) m) (drop (i + 1) o) = ap (λ x. but x (drop i o)) first ∙ ap (but (get_or m i false ∷ drop (i + 1) m)) second in
    let rest = but (drop (i + 1) m) (drop (i + 1) o) in
    ap (λ l. l ++ rest) pushed ∙ append_assoc made (b ∷ []) rest ∙ ap (λ x. made ++ x ∷ rest) is ∙ ap (λ l. made ++ l) (sym step) ∙ so_far

pub but_ended : (m o made : List Bool) (i : ℕ) → made ++ but (drop i m) (drop i o) ≡ but m o → length m ≤ i → but m o ≡ made
but_ended m o made i so_far all = sym so_far ∙ ap (λ l. made ++ but l (drop i o)) (drop_all i m all) ∙ append-nil made

-- ---- written over in place

-- of two masks the first i rows are written over
pub record Claimed (m o : List Bool) (i : ℕ) (now left : List Bool) : Type 0 where
  pub long : length now ≡ length m
  pub as_long : length left ≡ length o
  pub claimed : (k : ℕ) → k < i → get_or now k false ≡ (get_or m k false && get_or o k false)
  pub left_over : (k : ℕ) → k < i → get_or left k false ≡ (get_or o k false && not (get_or m k false))
  pub same : (k : ℕ) → i ≤ k → get_or now k false ≡ get_or m k false
  pub same_left : (k : ℕ) → i ≤ k → get_or left k false ≡ get_or o k false

pub claimed_none : (m o : List Bool) → Claimed m o 0 m o
claimed_none m o = record { long = refl; as_long = refl; claimed = λ k h. absurd (omega arith); left_over = λ k h. absurd (omega arith); same = λ k h. refl; same_left = λ k h. refl }

pub claimed_more : (m o now left : List Bool) (i : ℕ) (wanted open_row a b : Bool) → Claimed m o i now left → i < length now → i < length left → wanted ≡ get_or now i false → open_row ≡ get_or left i false →
    a ≡ (wanted && open_row) → b ≡ (open_row && not wanted) → Claimed m o (i + 1) (set now i a) (set left i b)
claimed_more m o now left i wanted open_row a b c within inside was is_open makes leaves =
    let mine : wanted ≡ get_or m i false = was ∙ c.same i (omega arith) in
    let free : open_row ≡ get_or o i false = is_open ∙ c.same_left i (omega arith) in
    record {
      long = length-set now i a ∙ c.long;
      as_long = length-set left i b ∙ c.as_long;
      claimed = below_more (λ k. get_or (set now i a) k false ≡ (get_or m k false && get_or o k false)) i
          (λ k h. let apart : k ≢ i = omega arith in rw get_or-set_other (c.claimed k h))
          (rw get_or-set_same (makes ∙ ap (λ x. x && open_row) mine ∙ ap (λ x. get_or m i false && x) free));
      left_over = below_more (λ k. get_or (set left i b) k false ≡ (get_or o k false && not (get_or m k false))) i
          (λ k h. let apart : k ≢ i = omega arith in rw get_or-set_other (c.left_over k h))
          (rw get_or-set_same (leaves ∙ ap (λ x. x && not wanted) free ∙ ap (λ x. get_or o i false && not x) mine));
      same = λ k h. let apart : k ≢ i = omega arith in rw get_or-set_other (c.same k (omega arith));
      same_left = λ k h. let apart : k ≢ i = omega arith in rw get_or-set_other (c.same_left k (omega arith));
    }

pub claimed_all : (m o now left : List Bool) (i : ℕ) → Claimed m o i now left → length m ≤ i → length o ≡ length m → now ≡ both m o
claimed_all m o now left i c all e =
    ext_get_or false now (both m o) (c.long ∙ sym (length-both m o e)) (λ k h. c.claimed k (omega (arith, c.long)) ∙ sym (get_or-both m o k))

pub left_all : (m o now left : List Bool) (i : ℕ) → Claimed m o i now left → length m ≤ i → length o ≡ length m → left ≡ but o m
left_all m o now left i c all e =
    ext_get_or false left (but o m) (c.as_long ∙ sym (length-but o m (sym e))) (λ k h. c.left_over k (omega (arith, c.as_long)) ∙ sym (get_or-but o m k (sym e)))
