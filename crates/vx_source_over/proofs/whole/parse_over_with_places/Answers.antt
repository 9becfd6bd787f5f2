use Rattle.std.proofs.Common.{◌≡◌, Err, sym, subst, rules}
use Rattle.std.specs.Prelude.{IfErr}
use Rattle.vx_value.specs.Views.{type_of}
use Rattle.vx_source_parser.specs.Placed.{tree_in}
use Rattle.vx_source_over.specs.Reading.{RefusesOver, GivesOver}
use Rattle.vx_source_over.specs.Views.{over_error}
use Rattle.vx_source_over.proofs.Texts.{unread_refused, excluded}
use Rattle.vx_source_over.proofs.whole.parse_over_with_places.Goals as goal

pub returns-in_err-written-clause-refuses : goal.returns-in_err-written-clause-refuses
returns-in_err-written-clause-refuses c =
    let s = type_of c.args.scope.now in
    let r = c.in_err-written.field-0.0 in
    let is : c.from_residual.result ≡ Err (over_error r) = search rules in
    subst (λ x. IfErr x (RefusesOver c.args.limit c.args.text.now s)) (sym is) (unread_refused c.args.limit c.args.text.now s r c.in_err-written.ensures.unread)

pub returns-in_err-written-clause-complete : goal.returns-in_err-written-clause-complete
returns-in_err-written-clause-complete c = λ e h.
    let s = type_of c.args.scope.now in
    let r = c.in_err-written.field-0.0 in
    let is : c.from_residual.result ≡ Err (over_error r) = search rules in
    subst (λ x. GivesOver tree_in x e) (sym is) (excluded c.args.limit c.args.text.now s e (over_error r) (unread_refused c.args.limit c.args.text.now s r c.in_err-written.ensures.unread) h)

pub returns-clause-reads : goal.returns-clause-reads
returns-clause-reads c = c.over.ensures.reads c.args.limit c.args.text.now c.in_ok-written.ensures.written

pub returns-clause-refuses : goal.returns-clause-refuses
returns-clause-refuses c = c.over.ensures.refuses c.args.limit c.args.text.now c.in_ok-written.ensures.written

pub returns-clause-complete : goal.returns-clause-complete
returns-clause-complete c = λ e h. c.over.ensures.complete c.args.limit c.args.text.now e c.in_ok-written.ensures.written h
