-- The tree of the row `kleene`, bound, and what merging leaves of it.
use Rattle.std.specs.Prelude.{◌≡◌, ℕ, false, Ok, Err, Result, IfOk, IfErr, codes}
use Rattle.std.proofs.Common.{refl, sym, ap, inl, subst}
use Rattle.vx_dtype.specs.Returns.{ReturnsOrOom}
use Rattle.vx_dtype.specs.declared.error.VortexError.{VortexError}
use Rattle.vx_dtype.specs.declared.error.VortexError.TheVariants.{OutOfMemory}
use Rattle.vx_value.specs.Types.{null}
use Rattle.vx_fn.specs.Functions.{get_item, literal, binary, compares, greater_or_equal, less_or_equal, truth_type}
use Rattle.vx_tree.specs.Binding.{binding}
use Rattle.vx_tree.specs.Examples.{i32, i32_or_null, bool_or_null, with_x, number_of}
use Rattle.vx_tree.specs.Trees.{BoundTree, scope, node, no_bound, bound, WellTyped, Over}
use Rattle.vx_tree.specs.Views.{bound_of}
use Rattle.vx_tree.specs.declared.bound.BoundExpression.{BoundExpression}
use Rattle.vx_rewrite_core.specs.Steps.{here, no_step, one_more}
use Rattle.vx_rewrite_fusing.specs.Conjuncts.{two_bounds, and_node, between_node, below_and_above, Fused}
use Rattle.vx_rewrite_fusing.specs.Merging.{itself, right_goes, Merges}
use Rattle.vx_rewrite_fusing.proofs.Merges.{fused_alone}
use Rattle.vx_rewrite_fusing.proofs.Unique.{fusing_is_unique}
use Rattle.vx_run.specs.Fused.{FusedIsKleeneMerged, fused}
use Rattle.vx_run.specs.Kleene.{kleene}

-- `$.x`, null and 5, bound to the rows' type
abbrev item : BoundTree
item = node i32 (get_item (codes "x")) (bound (scope (with_x i32)) no_bound)

abbrev low : BoundTree
low = node i32_or_null (literal i32_or_null null) no_bound

abbrev high : BoundTree
high = node i32 (literal i32 (number_of 5)) no_bound

abbrev from_low : BoundTree
from_low = node bool_or_null (binary (compares greater_or_equal)) (two_bounds item low)

abbrev to_high : BoundTree
to_high = node (truth_type false) (binary (compares less_or_equal)) (two_bounds item high)

-- the tree of `kleene`, and of `fused`
abbrev pub unfused : BoundTree
unfused = and_node bool_or_null from_low to_high

abbrev pub range : BoundTree
range = between_node false false item low high

item_typed : WellTyped item
item_typed = (refl, tt, (tt, tt))

low_typed : WellTyped low
low_typed = (refl, refl, tt)

high_typed : WellTyped high
high_typed = (refl, refl, tt)

pub unfused_typed : WellTyped unfused
unfused_typed = (refl, tt, ((refl, tt, (item_typed, (low_typed, tt))), ((refl, tt, (item_typed, (high_typed, tt))), tt)))

pub unfused_over : Over unfused kleene.batch.type
unfused_over = (((refl, tt), (tt, tt)), (((refl, tt), (tt, tt)), tt))

item_fused : Fused item
item_fused = fused_alone item (tt, tt) refl

low_fused : Fused low
low_fused = fused_alone low tt refl

high_fused : Fused high
high_fused = fused_alone high tt refl

range_fused : Fused range
range_fused = fused_alone range (item_fused, (low_fused, (high_fused, tt))) refl

merged : Merges unfused 1 range
merged =
    one_more
    (here
    (right_goes (fused_alone from_low (item_fused, (low_fused, tt)) refl) (fused_alone to_high (item_fused, (high_fused, tt)) refl) refl
    (record { mergeable = below_and_above refl refl; none_of_back = λ c d i j m. j; none_of_front = λ c d i j m. i })
    (itself refl)))
    no_step

pub fused_is_kleene_merged : FusedIsKleeneMerged
fused_is_kleene_merged b u n e m f =
    let is : unfused ≡ b = cc in
    let start : Merges unfused n u = subst (λ t. Merges t n u) (sym is) m in
    ap Ok (fusing_is_unique unfused range u 1 n unfused_typed merged range_fused start f)

-- ---- what the code finds

-- what is found in the tree of `kleene` is that of `fused`
pub found : (b : BoundTree) (r : Result BoundExpression VortexError) → binding kleene.source kleene.batch.type ≡ Ok b → IfOk r (λ u. (n : ℕ) × Merges b n (bound_of u)) → IfOk r (λ u. Fused (bound_of u)) → IfErr r (λ e. e ≡ OutOfMemory) →
    ReturnsOrOom bound_of r (binding fused.source fused.batch.type)
found b (Ok u) e m f memory = fused_is_kleene_merged b (bound_of u) m.0 e m.1 f
found b (Err x) e m f memory = inl memory
