use Rattle.std.proofs.Common.{◌≡◌}
use Rattle.vx_forms.specs.Named.{beside, named}
use Rattle.vx_forms.proofs.names.unzip_named.Given as goal

abbrev pub invariant-loop-name : goal.invariant-loop-name
invariant-loop-name g l = record {
  names : l.names.items ≡ named g.N.IntoFieldName.name l.yielded;
  others : l.others.items ≡ beside l.yielded;
}
