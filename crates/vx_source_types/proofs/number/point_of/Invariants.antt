use Rattle.std.proofs.Common.{◌≡◌, ◌++◌, drop}
use Rattle.std.specs.Prelude.{string_bytes}
use Rattle.std.specs.List.{filter}
use Rattle.vx_source_types.specs.Tokens.{is_in_number, point_digits}
use Rattle.vx_source_types.proofs.number.point_of.Given as goal

abbrev pub invariant-loop-b : goal.invariant-loop-b
invariant-loop-b l = string_bytes l.digits ++ filter is_in_number (drop l.b-index l.bytes) ≡ point_digits l.negative l.bytes
