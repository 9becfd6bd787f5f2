use Rattle.std.proofs.Common.{◌≡◌, drop}
use Rattle.std.specs.List.{list_all}
use Rattle.std.specs.Prelude.{◌||◌, ◌==◌}
use Rattle.vx_source_types.specs.Characters.{is_digit}
use Rattle.vx_source_types.proofs.point.is_whole.Given as goal

abbrev pub invariant-loop-b : goal.invariant-loop-b
invariant-loop-b l = list_all (λ b. is_digit b || b == 45) (drop l.b-index l.bytes) ≡ list_all (λ b. is_digit b || b == 45) l.bytes
