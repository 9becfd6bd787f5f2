use Rattle.std.proofs.Common.{◌≡◌, map}
use Rattle.vx_forms.proofs.names.names_of.Given as goal

abbrev pub invariant-loop-name : goal.invariant-loop-name
invariant-loop-name g l = l.all.items ≡ map g.N.IntoFieldName.name l.yielded
