-- One more piece in the map of the groups.
use Rattle.std.proofs.Common.{◌≡◌, ℕ, Bool, true, false, cond, List, [], ◌∷◌, ◌++◌, length, map, Option, Some, None, slice_get, position, Vec, refl, sym, ap, ◌∙◌, arith}
use Rattle.std.specs.Prelude.{is_some, not, nat_lt, if◌then◌else◌}
use Rattle.std.specs.Cmp.{IsEquivalence}
use Rattle.std.specs.HashMap.Eq.{lookup_congr}
use Rattle.std.specs.List.{position_or_len}
use Rattle.std.specs.Map.{lookup, keys_of, values_of}
use Rattle.std.proofs.lemmas.Bool.{ltb-false}
use Rattle.std.proofs.lemmas.List.{length-map, map-append}
use Rattle.std.proofs.lemmas.List.Sums.{prefix_len-le-length}
use Rattle.std.proofs.lemmas.Map.Entries.{length-keys_of}
use Rattle.indexmap.specs.IndexMap.{insert_entry}
use Rattle.indexmap.specs.Layout.{set_value_at}
use Rattle.indexmap.proofs.MapLemmas.{Found-position, insert_entry-first}
use Rattle.vx_tree.specs.declared.bound.BoundExpression.{BoundExpression}
use Rattle.vx_tree.specs.Trees.{BoundTree}
use Rattle.vx_tree.specs.Views.{bound_of}
use Rattle.vx_partition_laws.specs.Pieces.{Piece, Group}
use Rattle.vx_partition.specs.declared.mark.Mark.{Mark}
use Rattle.vx_partition.specs.declared.mark.Mark.TheVariants.{Hole}
use Rattle.vx_partition.specs.Collecting.{collected, SameGroups, hole_mark}
use Rattle.vx_partition.proofs.Growing.{add_piece, group_len, grows, len-collected, place-collected}

-- the entries as groups
abbrev pub seen : {A Z : Type 0} → List (A × Vec BoundExpression Z) → List (Group A)
seen es = map (λ e. (e.0, map bound_of e.1.items)) es

abbrev items_of : {Z : Type 0} → Option (Vec BoundExpression Z) → List BoundExpression
items_of None = []
items_of (Some v) = v.items

place_found : (i k : ℕ) (b : Bool) → Some i ≡ cond b (Some k) None → i ≡ k
place_found i k true e = cc
place_found i k false e = cc

none_below : (k : ℕ) (b : Bool) → None ≡ cond b (Some k) None → b ≡ false
none_below k true e = cc
none_below k false e = refl

place_new : {A : Type 0} (eq : A → A → Bool) (a : A) (ks : List A) → None ≡ position (eq a) ks → position_or_len (eq a) ks ≡ length ks
place_new eq a ks e =
    let above = ltb-false (position_or_len (eq a) ks) (length ks) (none_below (position_or_len (eq a) ks) (nat_lt (position_or_len (eq a) ks) (length ks)) e) in
    let below = prefix_len-le-length (λ x. not (eq a x)) ks in
    omega (arith, above, below)

pub none_there : {X : Type 0} (o : Option X) → false ≡ is_some o → o ≡ None
none_there None h = refl
none_there (Some x) h = cc

module _ {A Z : Type 0} (eq : A → A → Bool) where
  seen-insert : (es : List (A × Vec BoundExpression Z)) (a : A) (p : BoundExpression) (w : Vec BoundExpression Z) → w.items ≡ items_of (lookup (eq a) es) ++ p ∷ []
      → seen (insert_entry eq es a w) ≡ add_piece eq (seen es) a (bound_of p)
  seen-insert [] a p w h = ap (λ i. (a, map bound_of i) ∷ []) h
  seen-insert (e ∷ es) a p w h = go (eq a e.0) h (seen-insert es a p w)
    where
      go : (t : Bool) → w.items ≡ items_of (cond t (Some e.1) (lookup (eq a) es)) ++ p ∷ [] → (w.items ≡ items_of (lookup (eq a) es) ++ p ∷ [] → seen (insert_entry eq es a w) ≡ add_piece eq (seen es) a (bound_of p))
          → seen (cond t ((e.0, w) ∷ es) (e ∷ insert_entry eq es a w)) ≡ (if t then (e.0, map bound_of e.1.items ++ bound_of p ∷ []) ∷ seen es else (e.0, map bound_of e.1.items) ∷ add_piece eq (seen es) a (bound_of p))
      go true h r = ap (λ i. (e.0, map bound_of i) ∷ seen es) h ∙ ap (λ l. (e.0, l) ∷ seen es) (map-append bound_of e.1.items (p ∷ []))
      go false h r = ap (λ l. (e.0, map bound_of e.1.items) ∷ l) (r h)

  len-lookup : (es : List (A × Vec BoundExpression Z)) (a : A) → group_len eq (seen es) a ≡ length (items_of (lookup (eq a) es))
  len-lookup [] a = refl
  len-lookup (e ∷ es) a = go (eq a e.0) (len-lookup es a)
    where
      go : (t : Bool) → group_len eq (seen es) a ≡ length (items_of (lookup (eq a) es)) → (if t then length (map bound_of e.1.items) else group_len eq (seen es) a) ≡ length (items_of (cond t (Some e.1) (lookup (eq a) es)))
      go true r = length-map e.1.items bound_of
      go false r = r

  keys-seen : (es : List (A × Vec BoundExpression Z)) → map (λ g. g.0) (seen es) ≡ keys_of es
  keys-seen [] = refl
  keys-seen (e ∷ es) = ap (λ l. e.0 ∷ l) (keys-seen es)

  module _ (laws : IsEquivalence eq) where
    -- what the map and the mark are after one more piece
    abbrev pub IsAdded : List (A × Vec BoundExpression Z) → List (A × Vec BoundExpression Z) → A → BoundTree → Mark → Type 0
    IsAdded es new a b mark =
        (before : List (Piece A)) → SameGroups eq (seen es) (collected eq before) → (mark ≡ hole_mark eq before a) × SameGroups eq (seen new) (collected eq (before ++ (a, b) ∷ []))

    marked : (es : List (A × Vec BoundExpression Z)) (a : A) (g i : ℕ) (before : List (Piece A)) → SameGroups eq (seen es) (collected eq before) → g ≡ position_or_len (eq a) (keys_of es) → i ≡ length (items_of (lookup (eq a) es))
        → Hole g i ≡ hole_mark eq before a
    marked es a g i before s p q =
        let place = p ∙ ap (position_or_len (eq a)) (sym (keys-seen es)) ∙ place-collected eq laws before (seen es) a s in
        let count = q ∙ sym (len-lookup es a) ∙ len-collected eq laws before (seen es) a s in
        rw (place, count) refl

    -- a push onto the group of its annotation
    pub pushed : (es : List (A × Vec BoundExpression Z)) (a : A) (p : BoundExpression) (i n : ℕ) (v w : Vec BoundExpression Z) → Some i ≡ position (eq a) (keys_of es) → slice_get (values_of es) i ≡ Some v → n ≡ length v.items → w.items ≡ v.items ++ p ∷ []
        → IsAdded es (set_value_at es i w) a (bound_of p) (Hole i n)
    pushed es a p i n v w at here count is before s =
        let f = Found-position (eq a) es i (sym at) in
        let found : lookup (eq a) es ≡ Some v = f.value ∙ here in
        let put : seen (set_value_at es i w) ≡ add_piece eq (seen es) a (bound_of p) =
        sym (ap seen (insert_entry-first eq a w es i f.first)) ∙ seen-insert es a p w (is ∙ ap (λ o. items_of o ++ p ∷ []) (sym found)) in (
          marked es a i n before s (place_found i (position_or_len (eq a) (keys_of es)) _ at) (count ∙ ap (λ o. length (items_of o)) (sym found)),
          grows eq laws before (seen es) _ a a (bound_of p) s (laws.refl a) put,
        )

    -- a new group
    pub begun : (es : List (A × Vec BoundExpression Z)) (a c : A) (p : BoundExpression) (n : ℕ) (w : Vec BoundExpression Z) → None ≡ position (eq a) (keys_of es) → lookup (eq a) es ≡ None → eq a c ≡ true → n ≡ length es → w.items ≡ p ∷ []
        → IsAdded es (insert_entry eq es c w) a (bound_of p) (Hole n 0)
    begun es a c p n w at none copied count is before s =
        let empty : lookup (eq c) es ≡ None = sym (lookup_congr eq laws.congr es a c copied) ∙ none in
        let put = seen-insert es c p w (is ∙ ap (λ o. items_of o ++ p ∷ []) (sym empty)) in (
          marked es a n 0 before s (count ∙ sym (place_new eq a (keys_of es) at ∙ length-keys_of es)) (ap (λ o. length (items_of o)) (sym none)),
          grows eq laws before (seen es) _ a c (bound_of p) s copied put,
        )
