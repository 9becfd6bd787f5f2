-- Of the next records those are kept at which the tree means true.
use Rattle.vx_tree.specs.Trees.{unbound}
use Rattle.vx_tree.specs.Views.{bound_of}
use Rattle.vx_records.proofs.Selecting.{as_many_values, kept_next}
use Rattle.vx_records.proofs.kept.next_kept.Goals as goal

pub kept_of-requires : goal.kept_of-requires
kept_of-requires g c = as_many_values g.R.RecordReader.leaves c.args.count (unbound (bound_of c.args.tree.now)) (g.R.RecordReader.scope c.args.records.now) c.args.records.now _ c.in-Ok.answers.value c.in-Ok.ensures.read

pub returns-in_ok-kept_of-in-Ok-clause-read : goal.returns-in_ok-kept_of-in-Ok-clause-read
returns-in_ok-kept_of-in-Ok-clause-read g c = kept_next g.R.RecordReader.leaves c.args.count (unbound (bound_of c.args.tree.now)) (g.R.RecordReader.scope c.args.records.now) c.args.records.now _ c.in-Ok.answers.value c.in_ok-kept_of-in-Ok.field-0.value c.in-Ok.ensures.read c.in_ok-kept_of-in-Ok.ensures.ok
