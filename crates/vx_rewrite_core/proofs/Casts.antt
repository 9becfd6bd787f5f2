-- A tree as a value of a type: cast where its type is another.
use Rattle.std.proofs.Common.{◌≡◌, ◌≢◌, inl, inr, ◌+◌, ◌≤◌, List, [], ◌∷◌, refl, sym, subst, Bool, true, false, map, length, arith}
use Rattle.std.specs.Prelude.{None, position, if◌then◌else◌}
use Rattle.std.specs.List.{position_or_len}
use Rattle.std.proofs.lemmas.Bool.{le-ltb, true≢false}
use Rattle.vx_value.proofs.Above.{fits-above}
use Rattle.vx_value.specs.Equality.{equal_type}
use Rattle.vx_value.specs.Deciding.{equal_type-Decides}
use Rattle.vx_value.specs.Fits.{Fits}
use Rattle.vx_value.specs.Types.{LogicalType, Datum}
use Rattle.vx_fn.proofs.Monotone.{narrower_refl}
use Rattle.vx_fn.proofs.Rows.{fn_type-only}
use Rattle.vx_fn.specs.Faults.{misfits}
use Rattle.vx_dtype.specs.Lists.{IsIn}
use Rattle.vx_fn.specs.Rows.{of_cast}
use Rattle.vx_tree.proofs.Trees.{value-fits, each_passes}
use Rattle.vx_tree.specs.Faults.{HasNoFault}
use Rattle.vx_tree.specs.Meaning.{value, values}
use Rattle.vx_tree.specs.Nodes.{bound_children_of}
use Rattle.vx_tree.specs.Trees.{BoundTree, BoundTrees, node_type}
use Rattle.vx_rewrite_core.specs.Keeps.{Keeps}
use Rattle.vx_rewrite_core.specs.Weights.{weight}
use Rattle.vx_rewrite_core.proofs.Inside.{below_inside}
use Rattle.vx_rewrite_core.proofs.Joins.{narrower-same}
use Rattle.vx_rewrite_core.specs.FromSubterms.{Inside, EachFrom, from_none, from_inside}
use Rattle.vx_rewrite_core.specs.Nodes.{one_bound, cast_node, AsType, as_it_is, as_cast, as_type}

-- ---- faults

no_position : {A : Type 0} (p : A → Bool) (xs : List A) → ((x : A) → IsIn x xs → p x ≡ false) → position p xs ≡ None
no_position p xs e = let k : length xs ≤ position_or_len p xs = passed xs e in rw (le-ltb _ _ k) refl
  where
    passed : (xs : List _) → ((x : _) → IsIn x xs → p x ≡ false) → length xs ≤ position_or_len p xs
    passed [] e = omega arith
    passed (x ∷ xs) e = let h : length xs ≤ position_or_len p xs = passed xs (λ y i. e y (inr i)) in rw (e x (inl refl)) (omega arith)

fits_cast : (t : LogicalType) (v : Datum) → Fits v t → misfits t (v ∷ []) ≡ false
fits_cast t v e = rw e refl

-- a cast of values that fit doesn't fault
pub cast_quiet : (t : LogicalType) (x : BoundTree) (batch : List Datum) → HasNoFault x batch → ((v : Datum) → IsIn v batch → Fits (value x v) t) → HasNoFault (cast_node t x) batch
cast_quiet t x batch n e =
    let rows = map (values (one_bound x)) batch in
    let k : position (misfits t) rows ≡ None = no_position (misfits t) rows (each batch e) in
    rw (n, k) refl
  where
    each : (batch : List Datum) → ((v : Datum) → IsIn v batch → Fits (value x v) t) → (row : List Datum) → IsIn row (map (values (one_bound x)) batch) → misfits t row ≡ false
    each [] e row i = elim i [ ]
    each (v ∷ batch) e row (inl q) = subst (λ row. misfits t row ≡ false) (sym q) (fits_cast t (value x v) (e v (inl refl)))
    each (v ∷ batch) e row (inr i) = each batch (λ w j. e w (inr j)) row i

-- ---- laws

-- a tree that keeps b keeps it as one of b's type
pub keeps_as_type : (b x u : BoundTree) → Keeps b x → AsType (node_type b) x u → Keeps b u
keeps_as_type b x u k (as_it_is e) = k
keeps_as_type b x u k (as_cast e) = record {
  typed_before = k.typed_before;
  typed_after = (fn_type-only (of_cast {t = node_type x} {u = node_type b} (narrower-same _ _ k.type)), tt, (k.typed_after, tt));
  scopes = λ s o. (k.scopes s o, tt);
  type = narrower_refl (node_type b);
  no_fault = λ s batch o i n.
      cast_quiet (node_type b) x batch (k.no_fault s batch o i n)
      (λ v j. fits-above (value x v) k.type (value-fits x s batch v k.typed_after (k.scopes s o) (k.no_fault s batch o i n) j (each_passes _ batch v i j)));
  meaning = k.meaning;
}

pub as_type-weight : {t : LogicalType} {x u : BoundTree} → AsType t x u → weight u ≤ weight x + 1
as_type-weight (as_it_is e) = omega arith
as_type-weight (as_cast e) = omega arith

pub as_type-from : {t : LogicalType} (x u : BoundTree) (xs : BoundTrees) → Inside x xs → AsType t x u → EachFrom xs (bound_children_of u)
as_type-from x u xs i (as_it_is e) = below_inside x xs i
as_type-from x u xs i (as_cast e) = from_inside i from_none

-- ---- as a function

same_type : (t u : LogicalType) → t ≡ u → equal_type t u ≡ true
same_type t u = (equal_type-Decides t u).1

other_type : (t u : LogicalType) → t ≢ u → equal_type t u ≡ false
other_type t u other = go (equal_type t u) refl
  where
    go : (b : Bool) → equal_type t u ≡ b → b ≡ false
    go true e = absurd (other ((equal_type-Decides t u).0 e))
    go false e = refl

pub as_type-is : {t : LogicalType} {x u : BoundTree} → AsType t x u → as_type t x ≡ u
as_type-is {t = t} {x = x} (as_it_is e) = rw (same_type (node_type x) t e) refl
as_type-is {t = t} {x = x} (as_cast e) = rw (other_type (node_type x) t e) refl

pub is-as_type : (t : LogicalType) (x : BoundTree) → AsType t x (as_type t x)
is-as_type t x = go (equal_type (node_type x) t) refl
  where
    go : (b : Bool) → equal_type (node_type x) t ≡ b → AsType t x (if b then x else cast_node t x)
    go true q = as_it_is ((equal_type-Decides (node_type x) t).0 q)
    go false q = as_cast (λ same. let e = same_type (node_type x) t same in true≢false cc)
