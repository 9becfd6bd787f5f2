use Rattle.std.proofs.Common.{rules, ◌≡◌, Err}
use Rattle.vx_dtype.specs.declared.error.VortexError.TheVariants.{OutOfMemory}
use Rattle.vx_walk.specs.Folds.{not_cloned, handed}
use Rattle.vx_walk.proofs.fold.visit_up.Goals as goal

pub returns-in_err-clone-clause-handed : goal.returns-in_err-clone-clause-handed
returns-in_err-clone-clause-handed g c =
    let e : c.from_residual.result ≡ Err OutOfMemory = search rules in
    rw e not_cloned

pub returns-clause-handed : goal.returns-clause-handed
returns-clause-handed g c = handed c.in_ok-clone.field-0 (g.met.N.Node.clones_are_equal _ _ c.in_ok-clone.ensures.cases) c.visit_up.ensures.gives
