use Rattle.std.specs.Prelude.{to_bits}
use Rattle.std.specs.Float.{binary32}
use Rattle.vx_floats.specs.declared.float.Float.TheVariants.{F32}
use Rattle.vx_floats.proofs.Once.{canonical_once}
use Rattle.vx_forms.proofs.floating_numbers.F32Native.into_value.Goals as goal

pub returns-clause-fits : goal.returns-clause-fits
returns-clause-fits c = canonical_once (F32 (to_bits binary32 c.args.self))
