use Rattle.std.proofs.Common.{refl}
use Rattle.vx_fn.specs.Functions.{and_also, or_else}
use Rattle.vx_build.proofs.Truths.{collects_truths_alone}
use Rattle.vx_build.proofs.laws.collects_take_truths_alone.Goals as goal

pub returns : goal.returns
returns c = record { ands = collects_truths_alone and_also refl; ors = collects_truths_alone or_else refl }
