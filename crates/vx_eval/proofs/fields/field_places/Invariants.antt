use Rattle.std.proofs.Common.{◌≡◌, map, take}
use Rattle.vx_value.specs.Fields.{field_value}
use Rattle.vx_value.specs.Types.{Data}
use Rattle.vx_value.specs.Views.{fields_of}
use Rattle.vx_eval.specs.Columns.{datum_at}
use Rattle.vx_eval.proofs.fields.field_places.Given as goal

abbrev pub invariant-loop-i : goal.invariant-loop-i
invariant-loop-i l = (vs : Data) → map (λ k. datum_at k vs) l.places.items ≡ map (λ a. field_value a (fields_of l.fields) vs) (take l.i l.names)
