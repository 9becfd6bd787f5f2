-- Nothing is written before the rows.
use Rattle.std.proofs.Common.{[]}
use Rattle.vx_tree.specs.Trees.{unbound}
use Rattle.vx_tree.specs.Views.{bound_of}
use Rattle.vx_records.proofs.Going.{reads_none}
use Rattle.vx_records.proofs.Portioned.{selected_stops}
use Rattle.vx_records.proofs.Selecting.{gains_kept}
use Rattle.vx_records.proofs.Written.{gains_none}
use Rattle.vx_records.proofs.selected.select_records.Goals as goal

pub returns-in-Err-clause-stopped : goal.returns-in-Err-clause-stopped
returns-in-Err-clause-stopped g c = (c.args.records.now, [], reads_none (g.R.RecordReader.leaves c.args.records.now), tt)

pub in_portions-requires-clause-none : goal.in_portions-requires-clause-none
in_portions-requires-clause-none g c = λ a. gains_none (g.W.RowWriter.written a)

pub in_portions-requires-clause-on : goal.in_portions-requires-clause-on
in_portions-requires-clause-on g c = λ a b d xs ys. gains_kept (unbound (bound_of c.args.selection.now.condition.now)) (unbound (bound_of c.args.selection.now.value.now)) _ (g.W.RowWriter.written a) (g.W.RowWriter.written b) (g.W.RowWriter.written d) xs ys

pub in_portions-requires-clause-later : goal.in_portions-requires-clause-later
in_portions-requires-clause-later g c = λ start mid a b d e xs. selected_stops g.R.RecordReader.leaves (bound_of c.args.selection.now.condition.now) (bound_of c.args.selection.now.value.now) _ start mid (g.W.RowWriter.written a) (g.W.RowWriter.written b) (g.W.RowWriter.written d) e xs
