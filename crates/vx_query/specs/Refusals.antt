-- How evaluation refuses.
use Rattle.vx_dtype.specs.declared.error.VortexError.{VortexError}
use Rattle.vx_dtype.specs.declared.error.VortexError.TheVariants.{AddOverflow, CastNull, BadFill, DivisionByZero}

-- the refusal is the fault of a node on a batch
abbrev pub IsFault : VortexError → Type 0
IsFault (AddOverflow row) = Unit {0}
IsFault (DivisionByZero row) = Unit {0}
IsFault (CastNull row) = Unit {0}
IsFault BadFill = Unit {0}
IsFault _ = ⊥
