-- What a key of a map stands for.
use Rattle.std.specs.Prelude.{◌≡◌, true}
use Rattle.std.specs.Hash as fed
use Rattle.std.proofs.Common.{refl, sym, ap, ◌∙◌}
use Rattle.vx_tree.specs.Digests.{digest_of}
use Rattle.vx_tree.specs.Equality.{equal_bound, equal_bound-Decides}
use Rattle.vx_tree.specs.Trees.{BoundTree}
use Rattle.vx_tree.specs.Views.{bound_of}
use Rattle.vx_tree.specs.declared.bound.BoundExpression.{BoundExpression}
use Rattle.vx_tree.specs.declared.exact.ExactBoundExpr.{ExactBoundExpr}

-- the bound tree that a key stands for
abbrev pub keyed : ExactBoundExpr → BoundTree
keyed k = bound_of k.expr

-- the key of an expression
abbrev pub key_for : BoundExpression → ExactBoundExpr
key_for e = record { expr = e; digest = digest_of (bound_of e); kept = refl }

-- equal keys are hashed alike
pub equal_keys_alike : (j k : ExactBoundExpr) → equal_bound (keyed j) (keyed k) ≡ true → fed.u64 j.digest ≡ fed.u64 k.digest
equal_keys_alike j k same = ap fed.u64 (j.kept ∙ ap digest_of ((equal_bound-Decides (keyed j) (keyed k)).0 same) ∙ sym k.kept)
