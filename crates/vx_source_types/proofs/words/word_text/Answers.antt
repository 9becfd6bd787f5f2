use Rattle.std.proofs.Common.{take, sym, subst}
use Rattle.std.specs.Str.{IsUtf8}
use Rattle.vx_source_types.proofs.Spelled.{word_utf8}
use Rattle.vx_source_types.proofs.words.word_text.Goals as goal

pub unreachable-requires : goal.unreachable-requires
unreachable-requires c =
    let bytes = c.args.bytes.now in
    c.in-Err.ensures.cases.0 (subst (λ n. IsUtf8 (take n bytes)) (sym c.word_len.ensures.len) (word_utf8 bytes))
