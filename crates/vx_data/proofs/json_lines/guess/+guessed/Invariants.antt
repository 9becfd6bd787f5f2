use Rattle.std.proofs.Common.{◌≡◌, length}
use Rattle.vx_data.proofs.json_lines.guess.+guessed.Given as goal

abbrev pub invariant-guessed_fields-loop-field : goal.invariant-guessed_fields-loop-field
invariant-guessed_fields-loop-field l = length l.names.items ≡ length l.types.items
