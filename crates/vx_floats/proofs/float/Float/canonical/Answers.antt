use Rattle.vx_floats.specs.declared.float.Float.TheVariants as Float
use Rattle.vx_floats.proofs.Once.{canonical_once}
use Rattle.vx_floats.proofs.float.Float.canonical.Goals as goal

pub returns-in-F32-clause-once : goal.returns-in-F32-clause-once
returns-in-F32-clause-once c = rw (c.from_f32_bits.ensures) (canonical_once (Float.F32 c.in-F32.bits))

pub returns-in-F64-clause-once : goal.returns-in-F64-clause-once
returns-in-F64-clause-once c = rw (c.from_f64_bits.ensures) (canonical_once (Float.F64 c.in-F64.bits))
