-- A source over a batch, in one call.
use Rattle.std.specs.Prelude.{Result}
use Rattle.vx_dtype.specs.declared.error.VortexError.{VortexError}
use Rattle.vx_value.specs.Columns.{Batch}
use Rattle.vx_tree.specs.Binding.{binding}
use Rattle.vx_tree.specs.Trees.{Tree, on_ok}
use Rattle.vx_eval.specs.Evaluation.{evaluation}

-- what the source gives over the batch, bound to its type; else the refusal of binding, or the first fault
abbrev pub application : Tree → Batch → Result Batch VortexError
application e c = on_ok (λ b. evaluation b c) (binding e c.type)
