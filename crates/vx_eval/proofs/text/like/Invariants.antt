use Rattle.std.proofs.Common.{◌≡◌, get_or, map}
use Rattle.vx_value.specs.Types.{null}
use Rattle.vx_fn.specs.Values.{liked}
use Rattle.vx_eval.specs.Columns.{truth_datum, rows_view, each_row}
use Rattle.vx_eval.proofs.text.like.Given as goal

abbrev pub invariant-loop-i : goal.invariant-loop-i
invariant-loop-i l = map truth_datum l.answers.items ≡ each_row l.i (λ k. liked l.options.negated l.options.case_insensitive (get_or (rows_view l.child) k null) (get_or (rows_view l.pattern) k null))
