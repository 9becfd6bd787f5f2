use Rattle.std.proofs.Common.{sym, ap, ◌∙◌}
use Rattle.vx_value.specs.Views.{value_of}
use Rattle.vx_prune_bounds.specs.Order.{at_most}
use Rattle.vx_prune_bounds.specs.Views.{endpoint_value}
use Rattle.vx_prune_tree.proofs.Compared.{comparable-is, alone_left, alone_right}
use Rattle.vx_prune_tree.proofs.order.at_most.Goals as goal

pub returns-in-Some-of : goal.returns-in-Some-of
returns-in-Some-of c =
    let v = comparable-is (value_of c.args.v.now) (endpoint_value c.in-Some.end) c.in-Some.ensures in
    let w = comparable-is (value_of c.args.w.now) (endpoint_value c.in-Some-of.other) c.in-Some-of.ensures in
    c.at_most.ensures ∙ ap (λ d. at_most d (endpoint_value c.in-Some-of.other)) v ∙ ap (at_most (value_of c.args.v.now)) w

pub returns-in-None-of : goal.returns-in-None-of
returns-in-None-of c = sym (alone_right (value_of c.args.v.now) (value_of c.args.w.now) c.in-None-of.ensures)

pub returns-in-None : goal.returns-in-None
returns-in-None c = sym (alone_left (value_of c.args.v.now) (value_of c.args.w.now) c.in-None.ensures)
