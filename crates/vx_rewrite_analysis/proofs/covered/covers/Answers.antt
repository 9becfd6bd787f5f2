use Rattle.std.proofs.Common.{sym, subst}
use Rattle.std.specs.Prelude.{IsTrue, ◌↔◌}
use Rattle.vx_tree.specs.Views.{bound_of}
use Rattle.vx_rewrite_analysis.specs.Covers.{has_single, Covered}
use Rattle.vx_rewrite_analysis.proofs.Covering.{covered-decides}
use Rattle.vx_rewrite_analysis.proofs.covered.covers.Goals as goal

pub returns : goal.returns
returns g c =
    subst (λ told. IsTrue told ↔ Covered (has_single c.args.annotations.now) (bound_of c.args.e.now)) (sym c.in_ok-is_covered.ensures)
    (covered-decides (has_single c.args.annotations.now) (bound_of c.args.e.now))
