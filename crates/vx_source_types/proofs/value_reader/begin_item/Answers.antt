use Rattle.std.proofs.Common.{ap, ◌∙◌, subst}
use Rattle.vx_source_types.specs.Reading.{ReadsAt}
use Rattle.vx_source_types.specs.Views.{lexeme_of}
use Rattle.vx_source_types.specs.ValueReading as reading
use Rattle.vx_source_types.specs.ValueViews.{frames_of, step_of}
use Rattle.vx_source_types.specs.declared.value_state.ValueFrame.TheVariants.{List as InList}
use Rattle.vx_source_types.proofs.Frames.{pushed}
use Rattle.vx_source_types.proofs.value_reader.begin_item.Goals as goal

pub returns : goal.returns
returns c =
    subst (λ fs. ReadsAt c.args.found.now.at step_of c.begin.result (reading.value_begins fs c.args.around.names.items c.args.around.room (lexeme_of c.args.found.now.token)))
    (ap frames_of c.in_ok-push.ensures.items ∙ pushed c.args.around.frames.items (InList c.args.items)) c.begin.ensures
