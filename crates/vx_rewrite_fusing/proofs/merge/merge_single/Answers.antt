use Rattle.std.proofs.Common.{rules, ◌≡◌, Some, None, Err}
use Rattle.vx_tree.specs.Views.{bound_of}
use Rattle.vx_rewrite_fusing.specs.Conjuncts.{range_of}
use Rattle.vx_rewrite_fusing.specs.Finding.{range_seen}
use Rattle.vx_rewrite_fusing.proofs.Found.{no_range_none, right_none_single, right_single, single_none}
use Rattle.vx_rewrite_fusing.proofs.Pairing.{pairs_single}
use Rattle.vx_rewrite_fusing.proofs.Refusals.{failed}
use Rattle.vx_rewrite_fusing.proofs.merge.merge_single.Goals as goal

pub returns-in_default : goal.returns-in_default
returns-in_default c =
    let none : range_of (bound_of c.args.d.now) ≡ None = search rules in
    no_range_none (bound_of c.args.l.now) (bound_of c.args.d.now) c.requires none

pub returns-in_err-left : goal.returns-in_err-left
returns-in_err-left c =
    let range : range_of (bound_of c.args.d.now) ≡ Some (range_seen c.in-Some.range) = search rules in
    let p = c.in_err-left.ensures (bound_of c.args.d.now) range in
    let same : c.from_residual.result ≡ Err c.in_err-left.field-0.0 = search rules in
    failed _ _ same p.1 (λ n. p.0 (single_none (bound_of c.args.l.now) (bound_of c.args.d.now) c.requires n))

pub returns-in-Some-2 : goal.returns-in-Some-2
returns-in-Some-2 c =
    let range : range_of (bound_of c.args.d.now) ≡ Some (range_seen c.in-Some.range) = search rules in
    let p = rw c.in-Some-2.is at (c.in_ok-left.ensures (bound_of c.args.d.now) range) in
    (λ n. p.0 (single_none (bound_of c.args.l.now) (bound_of c.args.d.now) c.requires n), pairs_single (right_single c.requires p.1))

pub returns-in-None : goal.returns-in-None
returns-in-None c =
    let range : range_of (bound_of c.args.d.now) ≡ Some (range_seen c.in-Some.range) = search rules in
    right_none_single (bound_of c.args.l.now) (bound_of c.args.d.now) c.requires (rw c.in-None.is at (c.in_ok-left.ensures (bound_of c.args.d.now) range))
