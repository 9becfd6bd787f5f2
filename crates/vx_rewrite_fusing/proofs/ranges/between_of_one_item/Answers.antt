use Rattle.std.proofs.Common.{rules, ◌≡◌, true, Err}
use Rattle.vx_dtype.specs.declared.error.VortexError.TheVariants.{OutOfMemory}
use Rattle.vx_tree.specs.Equality.{equal_bound, equal_bound-Decides}
use Rattle.vx_tree.specs.Views.{bound_of}
use Rattle.vx_rewrite_fusing.proofs.Refusals.{spent}
use Rattle.vx_rewrite_fusing.proofs.ranges.between_of_one_item.Goals as goal

pub returns-in_err-between : goal.returns-in_err-between
returns-in_err-between c =
    let same : equal_bound (bound_of c.args.lower.item.now) (bound_of c.args.upper.item.now) ≡ true = search rules in
    let refused : c.from_residual.result ≡ Err OutOfMemory = search rules in
    spent _ _ refused (λ apart. apart ((equal_bound-Decides _ _).0 same))

pub returns-then-eq : goal.returns-then-eq
returns-then-eq c =
    let same : equal_bound (bound_of c.args.lower.item.now) (bound_of c.args.upper.item.now) ≡ true = search rules in
    let equal = (equal_bound-Decides _ _).0 same in
    (λ apart. apart equal, (equal, c.in_ok-between.ensures.node))

pub returns : goal.returns
returns c = λ h.
    let same : equal_bound (bound_of c.args.lower.item.now) (bound_of c.args.upper.item.now) ≡ true = (equal_bound-Decides _ _).1 h in
    search rules
