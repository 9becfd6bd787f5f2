use Rattle.std.proofs.Common.{drop}
use Rattle.vx_value.specs.Views.{data_view}
use Rattle.vx_source_types.specs.ScalarPrintable.{AreSpelledValues}
use Rattle.vx_source_laws.proofs.spelled.+values.Given as goal

-- what is left of the values is all that is left to show
abbrev pub invariant-values_are_spelled-loop-i : goal.invariant-values_are_spelled-loop-i
invariant-values_are_spelled-loop-i l = AreSpelledValues (data_view (drop l.i l.values)) → AreSpelledValues (data_view l.values)
