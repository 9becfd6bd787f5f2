use Rattle.vx_tree.specs.Views.{bound_of, bounds_of}
use Rattle.vx_rewrite_folding.proofs.Pairs.{idle_some, fewer_ok}
use Rattle.vx_rewrite_folding.proofs.cases.case_given.Goals as goal

pub pairs_left-left-requires : goal.pairs_left-left-requires
pairs_left-left-requires c = idle_some c.requires.0 c.args.options.num_when_then_pairs c.args.options.has_else (bound_of c.args.condition.now) (bound_of c.args.then.now) (bounds_of c.args.rest.now) c.requires.1

pub case_over-requires : goal.case_over-requires
case_over-requires c =
    let k = fewer_ok c.requires.0 c.args.options.num_when_then_pairs c.args.options.has_else (bound_of c.args.condition.now) (bound_of c.args.then.now) (bounds_of c.args.rest.now) c.requires.1 in
    let l = c.pairs_left-left.ensures in
    let m = c.in_ok-children.ensures in
    let v = c.in_ok-vec.ensures.items in
    let a = c.in_ok-clone.ensures.cases in
    let b = c.in_ok-clone-2.ensures.cases in
    rw (l, m, v, a, b) k
