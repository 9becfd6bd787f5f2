use Rattle.std.proofs.Common.{rules, ◌≡◌, Err, refl}
use Rattle.vx_dtype.specs.declared.error.VortexError.TheVariants.{OutOfMemory}
use Rattle.vx_rewrite_fusing.proofs.Pairing.{merged_root, fused_root, root_unfused, none_across}
use Rattle.vx_rewrite_fusing.proofs.Refusals.{failed, spent}
use Rattle.vx_rewrite_fusing.proofs.merge.merge_and.Goals as goal

pub returns-in_err-left : goal.returns-in_err-left
returns-in_err-left c = λ b is below.
    let p = c.in_err-left.ensures in
    let same : c.from_residual.result ≡ Err c.in_err-left.field-0.0 = search rules in
    failed _ _ same p.1 (λ f. p.0 (none_across is f))

pub returns-in_default : goal.returns-in_default
returns-in_default c = λ b is below. fused_root is below (rw c.in_default.is at c.in_ok-left.ensures)

pub returns-in_err-and_of-in-Some-right : goal.returns-in_err-and_of-in-Some-right
returns-in_err-and_of-in-Some-right c = λ b is below.
    let p = rw c.in-Some.is at c.in_ok-left.ensures in
    let same : c.from_residual-in_err-and_of-in-Some-right.result ≡ Err OutOfMemory = search rules in
    spent _ _ same (root_unfused is p.1)

pub returns-in_ok-and_of-in-Some-right : goal.returns-in_ok-and_of-in-Some-right
returns-in_ok-and_of-in-Some-right c = λ b is below.
    let p = rw c.in-Some.is at c.in_ok-left.ensures in
    let node = rw (c.into_inner.ensures, c.into_inner-in-Some-right.ensures) at c.in_ok-and_of-in-Some-right.ensures.node in
    (root_unfused is p.1, merged_root is below (rw c.in-Some-right.is at p.1) node)

pub returns-in-None : goal.returns-in-None
returns-in-None c = λ b is below.
    let p = rw c.in-Some.is at c.in_ok-left.ensures in
    (root_unfused is p.1, merged_root is below (rw c.in-None.is at p.1) refl)
