use Rattle.vx_value.specs.Views.{type_of}
use Rattle.vx_command_pages.proofs.Told.{handed_on}
use Rattle.vx_command_pages.proofs.explanation.explanation_page.Goals as goal

pub returns : goal.returns
returns c =
    handed_on c.args.expression.now c.args.schema.now c.deref.result.now (type_of c.deref-2.result.now) c.explanation_of.result
    (rw (c.deref.ensures, c.deref-2.ensures) c.in_ok-query.ensures.read) (rw c.deref-2.ensures c.in_ok-query.ensures.scope) c.explanation_of.ensures.error c.explanation_of.ensures.place
