-- What is known of a node can be made: null is one of its type, and so is a beginning.
use Rattle.std.proofs.Common.{◌≡◌, refl}
use Rattle.std.specs.Prelude.{Some, None, IsTrue}
use Rattle.vx_value.specs.Fits.{Fits}
use Rattle.vx_value.specs.Types.{LogicalType, ty, null, is_nullable}
use Rattle.vx_value.specs.Views.{type_of}
use Rattle.vx_tree.specs.Trees.{BoundTree, WellTyped}
use Rattle.vx_rewrite_core.specs.Nodes.{literal_node}
use Rattle.vx_rewrite_rule_laws.proofs.FoldingKeeping.{folds_keep}
use Rattle.vx_rewrite_rule_laws.specs.Folding.{constant_given, fold_given, known_given}
use Rattle.vx_rewrite_folding.specs.Known.{test_of, tree_of, IsMade}
use Rattle.vx_rewrite_folding.specs.declared.known.Known.{Known}
use Rattle.vx_rewrite_folding.specs.declared.known.Known.TheVariants.{Tree, Truth, Null, NullTest, Beginning}

takes_null : (t : LogicalType) → Fits null t → IsTrue (is_nullable t)
takes_null (ty s n) e = e

-- since what stands for a node keeps it, and so is well typed
pub is_made : (b : BoundTree) (k : Known) → WellTyped b → constant_given b ≡ None → known_given b ≡ Some (tree_of k) → IsMade k
is_made b (Tree x) w n e = tt
is_made b (Truth v) w n e = tt
is_made b (Null t) w n e =
    let given : fold_given b ≡ Some (literal_node (type_of t.now) null) = rw (n, e) refl in
    takes_null (type_of t.now) (folds_keep b (literal_node (type_of t.now) null) w given).typed_after.1
is_made b (NullTest v x) w n e = tt
is_made b (Beginning a) w n e =
    let given : fold_given b ≡ Some (test_of a) = rw (n, e) refl in
    (folds_keep b (test_of a) w given).typed_after.2.1.0.1
