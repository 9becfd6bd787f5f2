use Rattle.std.proofs.Common.{sym, subst}
use Rattle.vx_source_types.specs.Reading.{IsRead}
use Rattle.vx_source_types.specs.ScalarReading.{scalar_step, scalar_due}
use Rattle.vx_source_types.proofs.Parsing.{parses_as}
use Rattle.vx_source_types.proofs.ScalarsAgain.{scalar_again}
use Rattle.vx_source_types.proofs.scalar_parser.parse_scalar_with.Goals as goal

pub returns-clause-complete : goal.returns-clause-complete
returns-clause-complete c = λ d h. parses_as (scalar_step c.args.nesting) (λ x. x) c.read_scalar.result d c.read_scalar.ensures h

pub returns-clause-again : goal.returns-clause-again
returns-clause-again c = λ d f u w h k e.
    parses_as (scalar_step c.args.nesting) (λ x. x) c.read_scalar.result d c.read_scalar.ensures
    (subst (λ bs. IsRead (scalar_step c.args.nesting) scalar_due bs d) (sym e) (scalar_again d.type d.value c.args.nesting f u w h k))
