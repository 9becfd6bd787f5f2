use Rattle.std.proofs.Common.{◌≡◌, inl, inr, ⊎_elim, Err, sym, ap, subst, ◌∙◌, arith, rules}
use Rattle.std.specs.Prelude.{map, option_map, slice_get}
use Rattle.vx_dtype.specs.Returns.{ReturnsOrOom}
use Rattle.vx_fn.specs.Views.{operation_of}
use Rattle.vx_build.specs.Rounds.{paired_by, collected}
use Rattle.vx_build.proofs.RoundLoops.{collect_turn, collect_refused, collect_end, first_is}
use Rattle.vx_build.proofs.rounds.collect.Goals as goal

pub returns-in_err-left-clause-left : goal.returns-in_err-left-clause-left
returns-in_err-left-clause-left g c =
    let failed : c.from_residual.result ≡ Err c.in_err-left.field-0.0 = search rules in
    subst (λ r. ReturnsOrOom (option_map g.T.TreeNode.seen) r (collected (paired_by g.T.TreeNode.over (operation_of c.args.operator)) (map g.T.TreeNode.seen c.args.items.items))) (sym failed)
    (⊎_elim (λ m. inl m) (λ q. inr (collect_refused _ _ _ _ _ (omega arith) q c.loop-alloc.invariant)) c.in_err-left.ensures)

pub loop-alloc-smaller : goal.loop-alloc-smaller
loop-alloc-smaller g c = (collect_turn _ _ _ _ _ (omega arith) c.in_ok-left.ensures c.loop-alloc.invariant).1

pub loop-alloc-preserved : goal.loop-alloc-preserved
loop-alloc-preserved g c = (collect_turn _ _ _ _ _ (omega arith) c.in_ok-left.ensures c.loop-alloc.invariant).0

pub returns-clause-left : goal.returns-clause-left
returns-clause-left g c =
    let is = first_is c.into_iter.result.rest.items c.next.new.self.rest.items c.into_iter.result.rest.len c.next.new.self.rest.len c.next.result (search rules) c.next.ensures.cases in
    collect_end _ _ _ _ _ (omega arith) (is ∙ ap (λ xs. slice_get xs 0) c.into_iter.ensures.rest) c.loop-alloc.invariant
