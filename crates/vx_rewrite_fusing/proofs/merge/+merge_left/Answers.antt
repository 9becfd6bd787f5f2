use Rattle.std.proofs.Common.{rules, ◌≡◌, ◌<◌, ◌∷◌, [], Err}
use Rattle.vx_dtype.specs.declared.error.VortexError.TheVariants.{OutOfMemory}
use Rattle.vx_tree.specs.Nodes.{size_of}
use Rattle.vx_tree.specs.Trees.{unbound}
use Rattle.vx_tree.specs.Views.{bound_of}
use Rattle.vx_rewrite_fusing.proofs.Binaries.{left_smaller, right_smaller}
use Rattle.vx_rewrite_fusing.proofs.Found.{none_on_left, none_on_right, left_single, left_in_first, left_in_second, left_none}
use Rattle.vx_rewrite_fusing.proofs.Refusals.{failed, spent}
use Rattle.vx_rewrite_fusing.proofs.merge.+merge_left.Goals as goal

pub returns-in_default : goal.returns-in_default
returns-in_default t c = λ d e. left_single d (bound_of c.args.l.now) c.merge_conjunct.result c.in_default.ensures (c.merge_conjunct.ensures d e)

pub merge_left-requires : goal.merge_left-requires
merge_left-requires t c =
    let smaller : size_of (unbound (bound_of c.in-Some.first.now)) < size_of (unbound (bound_of c.args.l.now)) = left_smaller c.in-Some.ensures in
    search rules

pub returns-in_err-u : goal.returns-in_err-u
returns-in_err-u t c = λ d e.
    let p = c.in_err-u.ensures d e in
    let same : c.from_residual.result ≡ Err c.in_err-u.field-0.0 = search rules in
    failed _ _ same p.1 (λ n. p.0 (none_on_left (d ∷ []) c.in-Some.ensures n))

pub returns-in_err-with_left : goal.returns-in_err-with_left
returns-in_err-with_left t c = λ d e.
    let p = rw c.in-Some-2.is at (c.in_ok-u.ensures d e) in
    let same : c.from_residual-in_err-with_left.result ≡ Err OutOfMemory = search rules in
    spent _ _ same (λ n. p.0 (none_on_left (d ∷ []) c.in-Some.ensures n))

pub returns-in-Some-2 : goal.returns-in-Some-2
returns-in-Some-2 t c = λ d e.
    let p = rw c.in-Some-2.is at (c.in_ok-u.ensures d e) in
    (λ n. p.0 (none_on_left (d ∷ []) c.in-Some.ensures n), left_in_first c.in-Some.ensures p.1 c.in_ok-with_left.ensures.node)

pub merge_left-requires-2 : goal.merge_left-requires-2
merge_left-requires-2 t c =
    let smaller : size_of (unbound (bound_of c.in-Some.second.now)) < size_of (unbound (bound_of c.args.l.now)) = right_smaller c.in-Some.ensures in
    search rules

pub returns-in_err-u-2 : goal.returns-in_err-u-2
returns-in_err-u-2 t c = λ d e.
    let p = c.in_err-u-2.ensures d e in
    let same : c.from_residual-in_err-u-2.result ≡ Err c.in_err-u-2.field-0.0 = search rules in
    failed _ _ same p.1 (λ n. p.0 (none_on_right (d ∷ []) c.in-Some.ensures n))

pub returns-in_err-with_right : goal.returns-in_err-with_right
returns-in_err-with_right t c = λ d e.
    let p = rw c.in-Some-3.is at (c.in_ok-u-2.ensures d e) in
    let same : c.from_residual-in_err-with_right.result ≡ Err OutOfMemory = search rules in
    spent _ _ same (λ n. p.0 (none_on_right (d ∷ []) c.in-Some.ensures n))

pub returns-in-Some-3 : goal.returns-in-Some-3
returns-in-Some-3 t c = λ d e.
    let p = rw c.in-Some-3.is at (c.in_ok-u-2.ensures d e) in (
      λ n. p.0 (none_on_right (d ∷ []) c.in-Some.ensures n),
      left_in_second c.in-Some.ensures (rw c.in_default-2.is at (c.in_ok-u.ensures d e)) p.1 c.in_ok-with_right.ensures.node,
    )

pub returns : goal.returns
returns t c = λ d e. left_none c.in-Some.ensures (rw c.in_default-2.is at (c.in_ok-u.ensures d e)) (rw c.in_default-3.is at (c.in_ok-u-2.ensures d e))
