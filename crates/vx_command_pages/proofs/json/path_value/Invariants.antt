use Rattle.std.proofs.Common.{◌≡◌, map, take}
use Rattle.serde_json.specs.Data.{string}
use Rattle.serde_json.specs.View.{view}
use Rattle.vx_value.specs.Paths.{path_of}
use Rattle.vx_command_pages.proofs.json.path_value.Given as goal

abbrev pub invariant-loop-part : goal.invariant-loop-part
invariant-loop-part l = map view l.names.items ≡ map string (path_of (take l.part-index l.parts))
