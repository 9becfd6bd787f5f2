use Rattle.std.proofs.Common.{◌≡◌, ◌<◌, ◌∷◌, [], ℕ, get_or, false}
use Rattle.vx_value.specs.Types.{null}
use Rattle.vx_value.specs.Views.{type_of}
use Rattle.vx_fn.specs.Faults.{has_fault}
use Rattle.vx_fn.specs.Values.{computed}
use Rattle.vx_eval.specs.Columns.{values_of, rows_view, each_row}
use Rattle.vx_eval.proofs.arithmetic.compute.Given as goal

abbrev pub invariant-loop-i : goal.invariant-loop-i
invariant-loop-i l = record {
  so_far : values_of l.results.items ≡ each_row l.i (λ k. computed l.arithmetic (get_or (rows_view l.lhs) k null) (get_or (rows_view l.rhs) k null));
  inside : (k : ℕ) → k < l.i → has_fault l.arithmetic (type_of l.dtype ∷ []) (get_or (rows_view l.lhs) k null ∷ get_or (rows_view l.rhs) k null ∷ []) ≡ false;
}
