use Rattle.std.proofs.Common.{◌≡◌, ◌∷◌, Err, string_bytes, sym, subst, arith, rules}
use Rattle.std.specs.Prelude.{IfErr}
use Rattle.vx_sql_parser.specs.RuleViews.{IsStop, said_of, state_of, with_tokens}
use Rattle.vx_sql_parser.specs.Views.{lexeme_in, lexemes_of}
use Rattle.vx_sql_parser.proofs.Written.{stopped, took}
use Rattle.vx_sql_parser.proofs.translation.Translation.take.Goals as goal

pub returns-in_err-step-clause-stops : goal.returns-in_err-step-clause-stops
returns-in_err-step-clause-stops c =
    let self = c.args.self.now in
    let x = lexeme_in c.args.token.now in
    let xs = lexemes_of c.args.behind.now in
    let error = c.in_err-step.field-0.0 in
    let is : c.from_residual.result ≡ Err error = search rules in
    subst (λ r. IfErr r (λ e. IsStop e (with_tokens self (x ∷ xs)))) (sym is)
    (stopped self.dialect (state_of self.state) self.more x xs (string_bytes self.source) error (omega arith) c.in_err-step.ensures)

pub returns-clause-goes : goal.returns-clause-goes
returns-clause-goes c =
    let self = c.args.self.now in
    let put = c.put.new.self in
    let says = c.in_ok-put.ensures in
    took self.dialect put.dialect (state_of self.state) (state_of put.state) self.more put.more (string_bytes self.source) (string_bytes put.source)
    (lexeme_in c.args.token.now) (lexemes_of c.args.behind.now) (said_of c.in_ok-step.step) (omega arith) c.in_ok-step.ensures says.dialect says.source says.state says.more
