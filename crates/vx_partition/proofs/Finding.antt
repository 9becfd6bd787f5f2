-- The tree of a name stands at the name's first place.
use Rattle.std.proofs.Common.{◌≡◌, ℕ, zero, suc, Bool, true, false, List, [], ◌∷◌, Option, Some, None, slice_get, position, refl, sym, ap, ◌∙◌}
use Rattle.std.specs.Prelude.{if◌then◌else◌, cond, not, nat_lt, ◌+◌}
use Rattle.std.specs.Cmp.{both_ways}
use Rattle.std.specs.List.{position_or_len}
use Rattle.std.proofs.lemmas.Bool.{lt-ltb, ltb-true, ltb-false}
use Rattle.std.proofs.lemmas.Option.{slice_get_past, slice_get_read}
use Rattle.std.specs.Slice.{IsItemAt}
use Rattle.std.proofs.Common.{length, arith}
use Rattle.std.specs.Option.{option_map, option_copied}
use Rattle.std.specs.Borrow.{Bor}
use Rattle.std.specs.Str.{bytes_eq}
use Rattle.vx_value.specs.Types.{Name}
use Rattle.vx_tree.specs.declared.bound.BoundExpression.{BoundExpression}
use Rattle.vx_tree.specs.Trees.{BoundTree}
use Rattle.vx_tree.specs.Views.{bound_of, bounds_of}
use Rattle.vx_partition_laws.specs.Items.{tree_named}

-- the tree at a place that was found
abbrev pub at_found : List BoundExpression → Option ℕ → Option BoundTree
at_found bs None = None
at_found bs (Some i) = option_map bound_of (slice_get bs i)

abbrev some_of : ℕ → Option ℕ
some_of k = Some k

lt_next : (k n : ℕ) → nat_lt (1 + k) (suc n) ≡ nat_lt k n
lt_next k n = both_ways _ _ (λ e. lt-ltb k n (omega (arith, ltb-true (1 + k) (suc n) e))) (λ e. lt-ltb (1 + k) (suc n) (omega (arith, ltb-true k n e)))

-- the place or the number of all, as a place
abbrev pub placed : ℕ → ℕ → Option ℕ
placed k n = cond (nat_lt k n) (Some k) None

placed_first : (n : ℕ) → placed 0 (suc n) ≡ Some 0
placed_first n = rw (lt-ltb 0 (suc n) (omega arith)) refl

placed_next : (k n : ℕ) → placed (1 + k) (suc n) ≡ option_map suc (placed k n)
placed_next k n = rw (lt_next k n) (go (nat_lt k n))
  where
    go : (b : Bool) → cond b (Some (1 + k)) None ≡ option_map suc (cond b (Some k) None)
    go true = ap some_of (omega arith)
    go false = refl

-- the first place from the second element on
pub position_next : {X : Type 0} (p : X → Bool) (x : X) (xs : List X) → position p (x ∷ xs) ≡ cond (p x) (Some zero) (option_map suc (position p xs))
position_next p x xs = go (p x)
  where
    go : (b : Bool) → placed (cond (not b) (1 + position_or_len p xs) 0) (length (x ∷ xs)) ≡ cond b (Some zero) (option_map suc (position p xs))
    go true = placed_first (length xs)
    go false = placed_next (position_or_len p xs) (length xs)

at_next : (x : BoundExpression) (bs : List BoundExpression) (o : Option ℕ) → at_found (x ∷ bs) (option_map suc o) ≡ at_found bs o
at_next x bs None = refl
at_next x bs (Some i) = refl

at_nothing : (o : Option ℕ) → at_found [] o ≡ None
at_nothing None = refl
at_nothing (Some i) = refl

pub named_at : (a : Name) (names : List Name) (bs : List BoundExpression) → tree_named a names (bounds_of bs) ≡ at_found bs (position (bytes_eq a) names)
named_at a [] bs = refl
named_at a (b ∷ names) [] = sym (at_nothing (position (bytes_eq a) (b ∷ names)))
named_at a (b ∷ names) (x ∷ bs) = go (bytes_eq a b) (named_at a names bs) ∙ sym (ap (at_found (x ∷ bs)) (position_next (bytes_eq a) b names))
  where
    go : (t : Bool) → tree_named a names (bounds_of bs) ≡ at_found bs (position (bytes_eq a) names)
        → (if t then Some (bound_of x) else tree_named a names (bounds_of bs)) ≡ at_found (x ∷ bs) (cond t (Some zero) (option_map suc (position (bytes_eq a) names)))
    go true e = refl
    go false e = e ∙ sym (at_next x bs (position (bytes_eq a) names))

pub copied_seen : (r : Option (Bor BoundExpression)) → option_map bound_of (option_copied r) ≡ option_map (λ b. bound_of b.now) r
copied_seen None = refl
copied_seen (Some b) = refl

-- what was lent at an index is what stands there
pub copied_at : {X : Type 0} (xs : List X) (i : ℕ) (r : Option (Bor X)) → IsItemAt xs i r → option_copied r ≡ slice_get xs i
copied_at xs i None h = sym (slice_get_past xs i (ltb-false i (length xs) (sym h.0)))
copied_at xs i (Some x) h = sym (slice_get_read xs (length xs) i x.now refl (ltb-true i (length xs) (sym h.0)) h.1)
