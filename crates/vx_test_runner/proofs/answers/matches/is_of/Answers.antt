use Rattle.std.proofs.Common.{◌∙◌, sym}
use Rattle.vx_value.proofs.Misfits.{no_misfit}
use Rattle.vx_test_runner.proofs.answers.matches.is_of.Goals as goal

-- the column's own rows are of its type, which is the one asked for
pub returns : goal.returns
returns c = λ equal.
    let column = c.args.column.now in
    let same = sym (c.dtype.ensures) ∙ c.types_are_equal_exactly.ensures.0 equal in
    rw same at ((no_misfit column.type column.rows).0 c.rows-rows.ensures.fit)
