use Rattle.std.proofs.Common.{◌≡◌, rules, sym, subst}
use Rattle.vx_value.specs.Paths.{minimal_paths}
use Rattle.vx_tree.specs.Views.{bound_of}
use Rattle.vx_rewrite_paths.specs.Agreement.{FixTheMeaning}
use Rattle.vx_rewrite_paths.specs.Asked.{referenced}
use Rattle.vx_rewrite_paths.proofs.Fixing.{minimal_paths-fix}
use Rattle.vx_rewrite_paths.proofs.referenced.referenced_field_paths.Goals as goal

pub returns-clause-fixes : goal.returns-clause-fixes
returns-clause-fixes c =
    let b = bound_of c.args.e.now in
    let same : c.extend.new.self ≡ referenced b = search rules in
    subst (λ paths. FixTheMeaning b (minimal_paths paths)) (sym same) (minimal_paths-fix b c.requires)
