use Rattle.std.proofs.Common.{◌≡◌}
use Rattle.std.specs.Prelude.{drop}
use Rattle.vx_data.specs.Quotes.{misquoted, misquoted_from}
use Rattle.vx_data.proofs.csv_files.quotes.misquoted.Given as goal

abbrev pub invariant-loop-i : goal.invariant-loop-i
invariant-loop-i l = misquoted_from l.delimiter l.place l.i (drop l.i l.text) ≡ misquoted l.delimiter l.text
