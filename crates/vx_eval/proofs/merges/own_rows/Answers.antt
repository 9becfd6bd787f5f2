use Rattle.std.proofs.Common.{◌≡◌, ◌∙◌, ap, arith, length, sym, List, Bool}
use Rattle.vx_value.specs.Columns.{Batch}
use Rattle.vx_eval_masks.proofs.Pairs.{length-but}
use Rattle.vx_eval.proofs.Branches.{own_more, left_more, own_done}
use Rattle.vx_eval.proofs.Lengths.{long_of}
use Rattle.vx_eval.proofs.merges.own_rows.Goals as goal

pub claimed_copy-requires : goal.claimed_copy-requires
claimed_copy-requires c = long_of (length c.args.rest.now) (λ (x : List Bool × Batch). x.0) c.args.branches.now c.loop-branch.branch-index c.branch-item.result c.requires (omega arith) c.branch-item.is ∙ sym c.loop-branch.invariant.size

pub loop-branch-preserved : goal.loop-branch-preserved
loop-branch-preserved c =
    let b = c.branch-item.result in
    let bs = c.args.branches.now in
    let long : length b.0 ≡ length c.loop-branch.left = long_of (length c.args.rest.now) (λ (x : List Bool × Batch). x.0) bs c.loop-branch.branch-index b c.requires (omega arith) c.branch-item.is ∙ sym c.loop-branch.invariant.size in
    record {
      size = ap length c.in_ok-claimed_copy.ensures.left ∙ length-but c.loop-branch.left b.0 long ∙ c.loop-branch.invariant.size;
      own = own_more bs c.loop-branch.branch-index b _ _ _ _ _ _ (omega arith) c.branch-item.is c.loop-branch.invariant.own c.in_ok-claimed_copy.ensures.own c.in_ok-claimed_copy.ensures.left c.in_ok-push.ensures.items;
      left_over = left_more bs c.loop-branch.branch-index b _ _ _ (omega arith) c.branch-item.is c.loop-branch.invariant.left_over c.in_ok-claimed_copy.ensures.left;
    }

pub returns : goal.returns
returns c = own_done c.args.branches.now c.loop-branch.branch-index c.args.rest.now _ _ _ _ _ (omega arith) c.loop-branch.invariant.own c.loop-branch.invariant.left_over c.in_ok-claimed_copy-2.ensures.own c.in_ok-push-2.ensures.items
