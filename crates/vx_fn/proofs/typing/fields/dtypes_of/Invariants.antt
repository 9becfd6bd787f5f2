use Rattle.std.proofs.Common.{◌≡◌, length, take, map}
use Rattle.vx_value.specs.Views.{type_of}
use Rattle.vx_fn.proofs.typing.fields.dtypes_of.Given as goal

abbrev pub invariant-loop-child : goal.invariant-loop-child
invariant-loop-child g l = (map type_of l.types.items ≡ map g.T.Typed.dtype_of (take l.child-index l.children)) × (length l.types.items ≡ l.child-index)
