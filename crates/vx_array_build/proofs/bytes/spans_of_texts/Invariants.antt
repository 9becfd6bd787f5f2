use Rattle.std.proofs.Common.{◌≡◌, map, take}
use Rattle.vx_value.specs.Types.{utf8}
use Rattle.vx_array.specs.Kinds.{text_row}
use Rattle.vx_array_build.proofs.bytes.spans_of_texts.Given as goal

abbrev pub invariant-loop-i : goal.invariant-loop-i
invariant-loop-i l = map text_row l.spans ≡ map (λ t. utf8 t.now) (take l.i l.texts)
