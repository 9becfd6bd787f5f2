use Rattle.std.proofs.Common.{arith, rules, refl, ◌≡◌, [], ◌∷◌}
use Rattle.vx_tree.specs.Views.{bound_of}
use Rattle.vx_rewrite_fusing.proofs.Children.{bounds_of-take_more, bounds_of-append}
use Rattle.vx_rewrite_fusing.proofs.finding.copies.Goals as goal

pub loop-b-preserved : goal.loop-b-preserved
loop-b-preserved c =
    let same : bound_of c.in_ok-clone.field-0 ≡ bound_of c.b-item.result = search rules in
    rw (c.in_ok-push.ensures.items, bounds_of-append c.loop-b.copied.items (c.in_ok-clone.field-0 ∷ []), same, bounds_of-take_more c.args.list.now c.loop-b.b-index c.b-item.result (omega arith) c.b-item.is, c.loop-b.invariant) refl
