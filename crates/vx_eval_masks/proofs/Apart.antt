-- Masks that are apart, and the first of some that is true.
use Rattle.std.proofs.Common.{◌≡◌, ℕ, ◌<◌, List, [], ◌∷◌, ◌++◌, length, get_or, refl, sym, ap, subst, ◌∙◌, arith, zero, suc, Bool, true, false, ◌&&◌, not, inl, inr}
use Rattle.std.specs.Prelude.{if◌then◌else◌}
use Rattle.std.proofs.Math.ListN.{replicate}
use Rattle.std.proofs.lemmas.List.{get_or_past}
use Rattle.std.proofs.Math.Bool.{and-true}
use Rattle.std.proofs.lemmas.Bool.{cases_lt}
use Rattle.vx_value.specs.Types.{Datum, null}
use Rattle.vx_eval_masks.specs.Masks.{both, but}
use Rattle.vx_eval_masks.proofs.Pairs.{get_or-both, get_or-but, length-both, length-but}
use Rattle.vx_eval_masks.specs.Merges.{merged_at, EachMask, AreApart, NoneAt, claimed, unclaimed}

-- no mask stands behind the last one
pub none_at : (ms : List (List Bool)) (k : ℕ) → ((j : ℕ) → j < length ms → get_or (get_or ms j []) k false ≡ false) → NoneAt ms k
none_at ms k h = λ j. elim (cases_lt j (length ms)) as (λ _. get_or (get_or ms j []) k false ≡ false) [
  | inl lt ↦ h j lt
  | inr ge ↦ ap (λ (m : List Bool). get_or m k false) (get_or_past ms j [] ge)
]

-- where no mask is true the value is the one that is given
pub merged-none : (ms : List (List Bool)) (cs : List (List Datum)) (d : Datum) (k : ℕ) → NoneAt ms k → merged_at ms cs d k ≡ d
merged-none [] cs d k none = refl
merged-none (m ∷ ms) [] d k none = refl
merged-none (m ∷ ms) (c ∷ cs) d k none = ap (λ b. if b then get_or c k null else merged_at ms cs d k) (none 0) ∙ merged-none ms cs d k (λ j. none (suc j))

apart_rest : (m : List Bool) (ms : List (List Bool)) → AreApart (m ∷ ms) → AreApart ms
apart_rest m ms h i j k a b = let e : suc i ≡ suc j = h (suc i) (suc j) k a b in omega arith

-- where masks are apart, the value is the one beside any mask that is true
pub merged-at : (ms : List (List Bool)) (cs : List (List Datum)) (d : Datum) (j k : ℕ) → AreApart ms → length cs ≡ length ms → j < length ms → get_or (get_or ms j []) k false ≡ true → merged_at ms cs d k ≡ get_or (get_or cs j []) k null
merged-at [] cs d j k apart e lt on = absurd (omega arith)
merged-at (m ∷ ms) [] d j k apart e lt on = absurd (omega arith)
merged-at (m ∷ ms) (c ∷ cs) d zero k apart e lt on = ap (λ b. if b then get_or c k null else merged_at ms cs d k) on
merged-at (m ∷ ms) (c ∷ cs) d (suc j) k apart e lt on = go (get_or m k false) refl (merged-at ms cs d j k (apart_rest m ms apart) (omega arith) (omega arith) on)
  where
    go : (b : Bool) → get_or m k false ≡ b → merged_at ms cs d k ≡ get_or (get_or cs j []) k null → merged_at (m ∷ ms) (c ∷ cs) d k ≡ get_or (get_or cs j []) k null
    go true first later = let no : 0 ≡ suc j = apart 0 (suc j) k first on in absurd (omega arith)
    go false first later = ap (λ b. if b then get_or c k null else merged_at ms cs d k) first ∙ later

-- ---- masks that are claimed

open_then : (a b : Bool) → (a && b) ≡ true → b ≡ true
open_then true b e = e
open_then false b e = cc

wanted_then : (a b : Bool) → (a && b) ≡ true → a ≡ true
wanted_then true b e = refl
wanted_then false b e = cc

not_then : (a b : Bool) → (a && not b) ≡ true → b ≡ false
not_then true true e = cc
not_then true false e = refl
not_then false b e = cc

-- what is claimed was open
claimed_open : (open_rows : List Bool) (ms : List (List Bool)) (j k : ℕ) → EachMask (length open_rows) ms → get_or (get_or (claimed open_rows ms) j []) k false ≡ true → get_or open_rows k false ≡ true
claimed_open open_rows [] j k each on = cc
claimed_open open_rows (m ∷ ms) zero k each on = open_then (get_or m k false) (get_or open_rows k false) (sym (get_or-both m open_rows k) ∙ on)
claimed_open open_rows (m ∷ ms) (suc j) k each on =
    let size : length (but open_rows m) ≡ length open_rows = length-but open_rows m each.0 in
    wanted_then (get_or open_rows k false) _ (sym (get_or-but open_rows m k each.0) ∙ claimed_open (but open_rows m) ms j k (subst (λ n. EachMask n ms) (sym size) each.1) on)

claimed_later : (open_rows m : List Bool) (ms : List (List Bool)) (j k : ℕ) → EachMask (length open_rows) (m ∷ ms) → get_or (get_or (claimed (but open_rows m) ms) j []) k false ≡ true → get_or m k false ≡ false
claimed_later open_rows m ms j k each on =
    let size : length (but open_rows m) ≡ length open_rows = length-but open_rows m each.0 in
    not_then (get_or open_rows k false) (get_or m k false) (sym (get_or-but open_rows m k each.0) ∙ claimed_open (but open_rows m) ms j k (subst (λ n. EachMask n ms) (sym size) each.1) on)

pub claimed_apart : (open_rows : List Bool) (ms : List (List Bool)) → EachMask (length open_rows) ms → AreApart (claimed open_rows ms)
claimed_apart open_rows [] each i j k a b = cc
claimed_apart open_rows (m ∷ ms) each zero zero k a b = refl
claimed_apart open_rows (m ∷ ms) each zero (suc j) k a b =
    let yes : get_or m k false ≡ true = wanted_then (get_or m k false) (get_or open_rows k false) (sym (get_or-both m open_rows k) ∙ a) in
    let no : get_or m k false ≡ false = claimed_later open_rows m ms j k each b in
    cc
claimed_apart open_rows (m ∷ ms) each (suc i) zero k a b =
    let yes : get_or m k false ≡ true = wanted_then (get_or m k false) (get_or open_rows k false) (sym (get_or-both m open_rows k) ∙ b) in
    let no : get_or m k false ≡ false = claimed_later open_rows m ms i k each a in
    cc
claimed_apart open_rows (m ∷ ms) each (suc i) (suc j) k a b =
    let size : length (but open_rows m) ≡ length open_rows = length-but open_rows m each.0 in
    let same : i ≡ j = claimed_apart (but open_rows m) ms (subst (λ n. EachMask n ms) (sym size) each.1) i j k a b in
    ap suc same

pub claimed_long : (open_rows : List Bool) (ms : List (List Bool)) → EachMask (length open_rows) ms → EachMask (length open_rows) (claimed open_rows ms)
claimed_long open_rows [] each = tt
claimed_long open_rows (m ∷ ms) each =
    let size : length (but open_rows m) ≡ length open_rows = length-but open_rows m each.0 in
    (length-both m open_rows (sym each.0) ∙ each.0, subst (λ n. EachMask n (claimed (but open_rows m) ms)) size (claimed_long (but open_rows m) ms (subst (λ n. EachMask n ms) (sym size) each.1)))

pub length-claimed : (open_rows : List Bool) (ms : List (List Bool)) → length (claimed open_rows ms) ≡ length ms
length-claimed open_rows [] = refl
length-claimed open_rows (m ∷ ms) = ap suc (length-claimed (but open_rows m) ms)

-- at an open row the first mask that is true is the first that has it
pub merged-claimed : (open_rows : List Bool) (ms : List (List Bool)) (cs : List (List Datum)) (d : Datum) (k : ℕ) → EachMask (length open_rows) ms → get_or open_rows k false ≡ true → merged_at (claimed open_rows ms) cs d k ≡ merged_at ms cs d k
merged-claimed open_rows [] cs d k each on = refl
merged-claimed open_rows (m ∷ ms) [] d k each on = refl
merged-claimed open_rows (m ∷ ms) (c ∷ cs) d k each on =
    let size : length (but open_rows m) ≡ length open_rows = length-but open_rows m each.0 in
    let inside : EachMask (length (but open_rows m)) ms = subst (λ n. EachMask n ms) (sym size) each.1 in
    go (get_or m k false) refl (λ left. merged-claimed (but open_rows m) ms cs d k inside left)
  where
    here : get_or (both m open_rows) k false ≡ get_or m k false
    here = get_or-both m open_rows k ∙ ap (λ b. get_or m k false && b) on ∙ and-true (get_or m k false)

    go : (b : Bool) → get_or m k false ≡ b → (get_or (but open_rows m) k false ≡ true → merged_at (claimed (but open_rows m) ms) cs d k ≡ merged_at ms cs d k) →
        merged_at (claimed open_rows (m ∷ ms)) (c ∷ cs) d k ≡ merged_at (m ∷ ms) (c ∷ cs) d k
    go true e later = ap (λ b. if b then get_or c k null else merged_at (claimed (but open_rows m) ms) cs d k) (here ∙ e) ∙ sym (ap (λ b. if b then get_or c k null else merged_at ms cs d k) e)
    go false e later =
        let left : get_or (but open_rows m) k false ≡ true = get_or-but open_rows m k each.0 ∙ ap (λ b. b && not (get_or m k false)) on ∙ ap not e in
        ap (λ b. if b then get_or c k null else merged_at (claimed (but open_rows m) ms) cs d k) (here ∙ e) ∙ later left ∙ sym (ap (λ b. if b then get_or c k null else merged_at ms cs d k) e)

-- one mask more is claimed of what is left
pub claimed-snoc : (open_rows : List Bool) (ms : List (List Bool)) (m : List Bool) → claimed open_rows (ms ++ m ∷ []) ≡ claimed open_rows ms ++ both m (unclaimed open_rows ms) ∷ []
claimed-snoc open_rows [] m = refl
claimed-snoc open_rows (x ∷ ms) m = ap (λ l. both x open_rows ∷ l) (claimed-snoc (but open_rows x) ms m)

pub length-unclaimed : (open_rows : List Bool) (ms : List (List Bool)) → EachMask (length open_rows) ms → length (unclaimed open_rows ms) ≡ length open_rows
length-unclaimed open_rows [] each = refl
length-unclaimed open_rows (m ∷ ms) each =
    let size : length (but open_rows m) ≡ length open_rows = length-but open_rows m each.0 in
    length-unclaimed (but open_rows m) ms (subst (λ n. EachMask n ms) (sym size) each.1) ∙ size

-- the mask of all rows claims what is left
pub both-all : (n : ℕ) (m : List Bool) → length m ≡ n → both (replicate n true) m ≡ m
both-all zero [] e = refl
both-all zero (b ∷ m) e = absurd (omega arith)
both-all (suc n) [] e = absurd (omega arith)
both-all (suc n) (b ∷ m) e = ap (λ l. b ∷ l) (both-all n m (omega arith))

-- the value that is given comes last
pub merged-snoc : (ms : List (List Bool)) (cs : List (List Datum)) (m : List Bool) (c : List Datum) (d : Datum) (k : ℕ) → length cs ≡ length ms → merged_at (ms ++ m ∷ []) (cs ++ c ∷ []) d k ≡ merged_at ms cs (if get_or m k false then get_or c k null else d) k
merged-snoc [] [] m c d k e = refl
merged-snoc [] (x ∷ cs) m c d k e = absurd (omega arith)
merged-snoc (n ∷ ms) [] m c d k e = absurd (omega arith)
merged-snoc (n ∷ ms) (x ∷ cs) m c d k e = ap (λ y. if get_or n k false then get_or x k null else y) (merged-snoc ms cs m c d k (omega arith))
