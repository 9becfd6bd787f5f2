-- The rules of Zip keep the tree at which they apply.
use Rattle.std.proofs.Common.{◌≡◌, List, [], ◌∷◌, refl, sym, subst, Bool, true, false, ◌≢◌}
use Rattle.std.specs.Prelude.{if◌then◌else◌}
use Rattle.vx_fn.proofs.Rows.{fn_type-found}
use Rattle.vx_dtype.proofs.Unions.{above-left, above-right}
use Rattle.vx_tree.proofs.Children.{first_quiet, children_quiet}
use Rattle.vx_rewrite_core.proofs.Children.{second_quiet}
use Rattle.vx_value.specs.Types.{LogicalType, Datum, bool}
use Rattle.vx_dtype.specs.Joins.{same_base, join, Narrower}
use Rattle.vx_fn.specs.Functions.{zip}
use Rattle.vx_fn.specs.Rows.{FnType, of_zip}
use Rattle.vx_tree.specs.Meaning.{value}
use Rattle.vx_tree.specs.Faults.{HasNoFault}
use Rattle.vx_tree.specs.Trees.{BoundTree, node, node_type, WellTyped, Over}
use Rattle.vx_rewrite_core.specs.Keeps.{Keeps}
use Rattle.vx_rewrite_core.specs.Nodes.{one_bound, two_bounds, three_bounds, literal_node, cast_node, as_cast}
use Rattle.vx_rewrite_core.proofs.Casts.{keeps_as_type}

zip_type : {a b m t : LogicalType} → FnType zip (a ∷ b ∷ m ∷ []) t → (same_base a b ≡ true) × (t ≡ join a b)
zip_type (of_zip s) = (s, refl)

chosen : Bool → BoundTree → BoundTree → BoundTree
chosen c x y = if c then x else y

module _ (t m : LogicalType) (x y : BoundTree) where
  both : Bool → BoundTree
  both c = node t zip (three_bounds x y (literal_node m (bool c)))

  chosen-below : (c : Bool) → WellTyped (both c) → Narrower (node_type (if c then x else y)) t
  unfolding both
  chosen-below true w = let k = zip_type (fn_type-found zip (node_type x ∷ node_type y ∷ m ∷ []) t w.0) in subst (Narrower (node_type x)) (sym k.1) (above-left (node_type x) (node_type y) k.0)
  chosen-below false w = let k = zip_type (fn_type-found zip (node_type x ∷ node_type y ∷ m ∷ []) t w.0) in subst (Narrower (node_type y)) (sym k.1) (above-right (node_type x) (node_type y) k.0)

  chosen-well_typed : (c : Bool) → WellTyped (both c) → WellTyped (if c then x else y)
  unfolding both
  chosen-well_typed true w = w.2.0
  chosen-well_typed false w = w.2.1.0

  chosen-over : (c : Bool) (s : LogicalType) → Over (both c) s → Over (if c then x else y) s
  unfolding both
  chosen-over true s o = o.0
  chosen-over false s o = o.1.0

  chosen-quiet : (c : Bool) (batch : List Datum) → HasNoFault (both c) batch → HasNoFault (if c then x else y) batch
  unfolding both
  chosen-quiet true batch n = first_quiet x (two_bounds y (literal_node m (bool true))) batch (children_quiet t zip (three_bounds x y (literal_node m (bool true))) batch n)
  chosen-quiet false batch n = second_quiet t zip x y (one_bound (literal_node m (bool false))) batch n

  chosen-value : (c : Bool) (v : Datum) → value (if c then x else y) v ≡ value (both c) v
  unfolding both
  chosen-value true v = refl
  chosen-value false v = refl

pub keeps_zip_chosen : (t m : LogicalType) (c : Bool) (x y : BoundTree) → WellTyped (node t zip (three_bounds x y (literal_node m (bool c)))) → Keeps (node t zip (three_bounds x y (literal_node m (bool c)))) (if c then x else y)
unfolding both
keeps_zip_chosen t m c x y w = record {
  typed_before = w;
  typed_after = chosen-well_typed t m x y c w;
  scopes = λ s o. chosen-over t m x y c s o;
  type = chosen-below t m x y c w;
  no_fault = λ s batch o i n. chosen-quiet t m x y c batch n;
  meaning = λ s batch o i n v j. chosen-value t m x y c v;
}

pub keeps_zip_cast : (t m : LogicalType) (c : Bool) (x y : BoundTree) → WellTyped (node t zip (three_bounds x y (literal_node m (bool c)))) → node_type (if c then x else y) ≢ t → Keeps (node t zip (three_bounds x y (literal_node m (bool c)))) (cast_node t (if c then x else y))
unfolding both
keeps_zip_cast t m c x y w e = keeps_as_type (both t m x y c) (if c then x else y) (cast_node t (if c then x else y)) (keeps_zip_chosen t m c x y w) (as_cast e)
