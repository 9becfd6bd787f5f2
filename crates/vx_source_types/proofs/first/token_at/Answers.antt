use Rattle.std.proofs.Common.{sym, ◌∙◌}
use Rattle.vx_source_types.specs.Views.{lexeme_of}
use Rattle.vx_source_types.proofs.FirstTokens.{other_token_of, not_empty}
use Rattle.vx_source_types.proofs.first.token_at.Goals as goal

pub returns-clause-taken : goal.returns-clause-taken
returns-clause-taken c =
    other_token_of c.args.bytes.now (lexeme_of c.in_ok-token-2.token) c.in_ok-token-2.len (not_empty _ (sym c.is_empty.ensures ∙ c.if-is_empty.false))
    (sym c.is_letter.ensures ∙ c.if-is_letter.false) (sym c.is_hex.ensures ∙ c.if-is_hex.false) (sym c.is_digit.ensures ∙ c.if-is_digit.false)
    c.in_ok-token-2.ensures.taken
