use Rattle.std.proofs.Common.{◌∙◌, ap, sym}
use Rattle.std.proofs.Math.ListN.{replicate}
use Rattle.vx_value.specs.Views.{type_of, value_of}
use Rattle.vx_array.specs.Rows.{lanes_rows}
use Rattle.vx_array.proofs.Held.{rows-Same}
use Rattle.vx_array_eval.proofs.Given.{fill_found}
use Rattle.vx_array_eval.proofs.few.filled_of.Goals as goal

pub returns-then-is_fill : goal.returns-then-is_fill
returns-then-is_fill c =
    let m = c.in-Some-Same in
    let n = m.field-1-1 in
    fill_found c.args.node c.args.pair (type_of m.dtype.now) m.ensures.0 n (value_of c.as_ref.result.now) c.fill_null.result c.requires.fill c.requires.two c.requires.count m.ensures.1 (sym c.supports_dtype.ensures ∙ c.if-supports_dtype.true)
    (ap lanes_rows m.is-1 ∙ rows-Same m.value n ∙ ap (λ v. replicate n (value_of v)) (sym c.as_ref.ensures)) c.requires.long.1 (c.is_fill.ensures c.if-is_fill.true) c.fill_null.ensures
