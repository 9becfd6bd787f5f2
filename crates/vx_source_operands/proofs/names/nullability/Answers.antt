use Rattle.std.proofs.Common.{◌≡◌, None, option_map, sym, subst, rules}
use Rattle.vx_dtype.specs.declared.dtype.Nullability.{Nullability}
use Rattle.vx_value.specs.Views.{admits_null}
use Rattle.vx_fn.specs.Functions.{pack}
use Rattle.vx_source_grammar.specs.OptionReading.{packed}
use Rattle.vx_source_operands.specs.OperandViews.{lexemes_of}
use Rattle.vx_source_operands.proofs.Packs.{nullable, unsaid}
use Rattle.vx_source_operands.proofs.names.nullability.Goals as goal

pub returns-in_err-labelled_last : goal.returns-in_err-labelled_last
returns-in_err-labelled_last c = λ names.
    let is : c.from_residual-in_err-labelled_last.result ≡ None = search rules in
    subst (λ r. option_map (λ (n : Nullability). pack names (admits_null n)) r ≡ packed (names, lexemes_of c.args.tokens.now)) (sym is)
    (unsaid names _ _ _ c.in_ok-behind_bracket.ensures c.in_ok-rest.ensures c.in_err-labelled_last.ensures)

pub returns : goal.returns
returns c = λ names.
    nullable names _ _ _ _ _ c.in_ok-behind_bracket.ensures c.in_ok-rest.ensures c.in_ok-labelled_last.ensures c.nullability_at.ensures
