use Rattle.std.proofs.Common.{◌∙◌, ap, sym, length}
use Rattle.vx_array.specs.Shown.{masked}
use Rattle.vx_array_build.specs.Rowed.{flags}
use Rattle.vx_array_build.proofs.Rowed.{masked_all}
use Rattle.vx_array_build.proofs.valid_rows.validity_of_rows.Goals as goal

pub returns-in-All : goal.returns-in-All
returns-in-All c = λ ds. sym (ap (λ o. masked (flags (length ds) o) ds) c.in-All.is ∙ masked_all ds)
