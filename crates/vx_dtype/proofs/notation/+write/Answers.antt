use Rattle.std.proofs.Common.{[], ◌++◌, ap, ◌∙◌, arith, refl, rules}
use Rattle.std.proofs.Output.{has_written_append, has_written_of_eq, writes_in_calls_nil}
use Rattle.vx_dtype.specs.Notations.{shape_in}
use Rattle.vx_dtype.specs.Texts.{mark}
use Rattle.vx_dtype.specs.Types.{shape_of}
use Rattle.vx_dtype.specs.Views.{type_of}
use Rattle.vx_dtype.proofs.TypesWritten.{marked_shape, fields_in_next, fields_in_all}
use Rattle.vx_dtype.proofs.notation.+write.Goals as goal

pub write_type_in-returns : goal.write_type_in-returns
write_type_in-returns g _ c plain ok =
    let shape = c.write_shape.ensures plain (search rules) in
    let question = c.write_str.ensures.writes shape.plain ok in
    let t = type_of c.args.t.now in
    let whole = ap (λ m. shape_in g.N.TypeNotation.named (shape_of t) ++ m) (c.mark.ensures ∙ ap mark c.is_nullable.ensures) ∙ marked_shape g.N.TypeNotation.named t in
    has_written_of_eq _ _ _ _ _ whole (has_written_append _ _ _ _ _ _ shape question)

pub write_fields-loop-i-init : goal.write_fields-loop-i-init
write_fields-loop-i-init g t c = λ plain. ([], record { wrote = writes_in_calls_nil _ _; plain = plain }, refl)

pub write_fields-loop-i-preserved : goal.write_fields-loop-i-preserved
write_fields-loop-i-preserved g t c = λ plain.
    let (done, wrote, left) = c.loop-i.invariant plain in
    let comma = c.write_str.ensures.writes wrote.plain (search rules) in
    let field = c.in_ok-write_field.ensures comma.plain refl in (
      _,
      has_written_append _ _ _ _ _ _ (has_written_append _ _ _ _ _ _ wrote comma) field,
      fields_in_next g.N.TypeNotation.named c.args.names.now c.args.types.now c.loop-i.i c.index-names-i.result c.index-types-i.result done _ _
          (omega arith) (omega arith) c.index-names-i.is c.index-types-i.is c.separator.ensures left,
    )

pub write_fields-returns : goal.write_fields-returns
write_fields-returns g t c = λ plain ok.
    let (done, wrote, left) = c.loop-i.invariant plain in
    has_written_of_eq _ _ _ _ _ (fields_in_all g.N.TypeNotation.named c.args.names.now c.args.types.now c.loop-i.i done _ (omega arith) left) wrote
