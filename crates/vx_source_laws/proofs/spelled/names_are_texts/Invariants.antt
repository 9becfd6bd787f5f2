use Rattle.std.proofs.Common.{drop}
use Rattle.vx_source_laws.specs.SpelledTrees.{AreTexts}
use Rattle.vx_source_laws.proofs.spelled.names_are_texts.Given as goal

-- what is left of the names is all that is left to show
abbrev pub invariant-loop-i : goal.invariant-loop-i
invariant-loop-i l = AreTexts (drop l.i l.names) → AreTexts l.names
