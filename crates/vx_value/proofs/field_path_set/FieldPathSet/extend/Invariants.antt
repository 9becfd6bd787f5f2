use Rattle.std.proofs.Common.{◌≡◌, ◌++◌}
use Rattle.vx_value.specs.Paths.{add_paths}
use Rattle.vx_value.proofs.field_path_set.FieldPathSet.extend.Given as goal

abbrev pub invariant-loop-path : goal.invariant-loop-path
invariant-loop-path l = record {
  order : l.yielded ++ l.path-iterator.rest.items ≡ l.fn.paths.items;
  inserted : l.self ≡ add_paths l.fn.self l.yielded;
}
