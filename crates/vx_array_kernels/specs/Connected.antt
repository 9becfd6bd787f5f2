-- What joins two truth values.
use Rattle.vx_value.specs.Types.{Datum}
use Rattle.vx_fn.specs.Values.{kleene_and, kleene_or}
use Rattle.vx_array_kernels.specs.declared.logic.Connective.{Connective}
use Rattle.vx_array_kernels.specs.declared.logic.Connective.TheVariants.{And, Or}

-- Kleene's table
abbrev pub connected : Connective → Datum → Datum → Datum
connected And = kleene_and
connected Or = kleene_or
