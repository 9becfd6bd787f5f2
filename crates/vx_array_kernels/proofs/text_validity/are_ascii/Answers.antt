use Rattle.std.proofs.Common.{subst}
use Rattle.std.specs.Prelude.{MatchBool}
use Rattle.std.specs.Str.{IsAscii, IsNotAscii}
use Rattle.vx_array_kernels.proofs.ByBytes.{ascii_texts}
use Rattle.vx_array_kernels.proofs.text_validity.are_ascii.Goals as goal

pub returns-then-bytes-texts : goal.returns-then-bytes-texts
returns-then-bytes-texts c told =
    let bytes = c.buffers.result.1.now in
    ascii_texts c.buffers.result.0.now bytes _ _ (subst (λ b. MatchBool b (IsAscii bytes) (IsNotAscii bytes)) told c.is_ascii.ensures.cases) c.buffers.ensures
