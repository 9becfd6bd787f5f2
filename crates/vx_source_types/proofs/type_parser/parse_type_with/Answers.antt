use Rattle.std.proofs.Common.{sym, subst}
use Rattle.vx_dtype.specs.Views.{type_of}
use Rattle.vx_source_types.specs.Reading.{IsRead}
use Rattle.vx_source_types.specs.TypeReading.{type_step, type_start}
use Rattle.vx_source_types.proofs.Reading.{parses_as}
use Rattle.vx_source_types.proofs.TypesAgain.{text_again}
use Rattle.vx_source_types.proofs.type_parser.parse_type_with.Goals as goal

pub returns-clause-complete : goal.returns-clause-complete
returns-clause-complete c = λ t h. parses_as type_step type_of c.read_type.result t c.read_type.ensures h

pub returns-clause-again : goal.returns-clause-again
returns-clause-again c = λ t u h e.
    parses_as type_step type_of c.read_type.result t c.read_type.ensures
    (subst (λ bs. IsRead type_step (type_start c.args.nesting) bs t) (sym e) (text_again t c.args.nesting u h))
