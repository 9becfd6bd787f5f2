use Rattle.std.proofs.Common.{◌≡◌, None, rules, subst}
use Rattle.vx_dtype.specs.declared.dtype.DType.{the_lemmas}
use Rattle.vx_dtype.specs.declared.dtype.DType as program
use Rattle.vx_dtype.specs.declared.dtype.Nullability.TheVariants.{NonNullable}
use Rattle.vx_dtype.specs.declared.timestamp_type.TimeUnit.{TimeUnit}
use Rattle.vx_dtype.specs.Types.{timestamp}
use Rattle.vx_dtype.specs.Views.{type_of}
use Rattle.vx_source_types.specs.Reading.{ReadsAt}
use Rattle.vx_source_types.specs.TypeReading as reading
use Rattle.vx_source_types.specs.TypeViews.{frames_of, step_of}
use Rattle.vx_source_types.specs.Views.{lexeme_of}
use Rattle.vx_source_types.proofs.type_parts.unit_ends.Goals as goal

clock : (u : TimeUnit) → type_of (program.Timestamp (record { unit = u; zone = None }) NonNullable) ≡ reading.plain (timestamp u None)
clock u = search (rules, the_lemmas)

pub returns : goal.returns
returns c =
    subst (λ t. ReadsAt c.args.found.now.at step_of c.parts_go_on.result (reading.parts_go_on (frames_of c.args.around.frames.items) c.args.around.room t (reading.zone_due c.args.unit) (lexeme_of c.args.found.now.token)))
    (clock c.args.unit) c.parts_go_on.ensures
