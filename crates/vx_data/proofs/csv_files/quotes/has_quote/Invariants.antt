use Rattle.std.proofs.Common.{◌≡◌, ◌||◌}
use Rattle.std.specs.Prelude.{drop}
use Rattle.vx_data.specs.Quotes.{has_quote}
use Rattle.vx_data.proofs.csv_files.quotes.has_quote.Given as goal

abbrev pub invariant-loop-i : goal.invariant-loop-i
invariant-loop-i l = (l.found || has_quote (drop l.i l.text)) ≡ has_quote l.text
