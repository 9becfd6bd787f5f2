use Rattle.std.proofs.Common.{◌≡◌, filter, take}
use Rattle.vx_value.specs.Fields.{is_among}
use Rattle.vx_rewrite_paths.proofs.selection.among.Given as goal

abbrev pub invariant-loop-name : goal.invariant-loop-name
invariant-loop-name l = l.kept.items ≡ filter (is_among l.included) (take l.name-index l.names)
