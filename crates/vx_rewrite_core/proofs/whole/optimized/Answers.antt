use Rattle.std.proofs.Common.{refl}
use Rattle.vx_rewrite_core.proofs.Forms.{itself}
use Rattle.vx_rewrite_core.proofs.whole.optimized.Goals as goal

pub returns-in_ok-clone-in-None-clause-form : goal.returns-in_ok-clone-in-None-clause-form
returns-in_ok-clone-in-None-clause-form g c =
    let none = rw c.in-None.is at c.in_ok-form.ensures.none in
    itself _ _ c.requires (none.0 refl) c.in_ok-clone-in-None.ensures.cases
