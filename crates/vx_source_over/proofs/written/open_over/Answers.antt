use Rattle.vx_value.specs.Views.{type_of}
use Rattle.vx_source_parser.specs.Placed.{tree_in}
use Rattle.vx_source_over.proofs.Texts.{settles}
use Rattle.vx_source_over.proofs.written.open_over.Goals as goal

pub returns-in-Ok : goal.returns-in-Ok
returns-in-Ok c = λ none. settles c.args.limit c.args.text.now (type_of c.args.scope.now) tree_in c.settle_readings.result none c.in-Ok.ensures.reads c.settle_readings.ensures
