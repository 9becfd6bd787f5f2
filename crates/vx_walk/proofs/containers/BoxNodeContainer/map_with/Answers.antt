use Rattle.std.proofs.Common.{rules, ◌≡◌, Err}
use Rattle.vx_dtype.specs.declared.error.VortexError.TheVariants.{OutOfMemory}
use Rattle.vx_walk.specs.Containers.{within, not_held}
use Rattle.vx_walk.proofs.containers.BoxNodeContainer.map_with.Goals as goal

pub returns-in_err-value-clause-mapped : goal.returns-in_err-value-clause-mapped
returns-in_err-value-clause-mapped g c =
    let e : c.from_residual.result ≡ Err c.in_err-value.field-0.0 = search rules in
    rw e (within (Err c.in_err-value.field-0.0) (rw c.into_inner.ensures at c.in_err-value.ensures.mapped))

pub returns-in_err-new-clause-mapped : goal.returns-in_err-new-clause-mapped
returns-in_err-new-clause-mapped g c =
    let e : c.from_residual-in_err-new.result ≡ Err OutOfMemory = search rules in
    rw e (not_held tt (rw c.into_inner.ensures at c.in_ok-value.ensures.mapped))

pub returns-clause-mapped : goal.returns-clause-mapped
returns-clause-mapped g c = rw c.in_ok-new.ensures.ok (within _ (rw c.into_inner.ensures at c.in_ok-value.ensures.mapped))
