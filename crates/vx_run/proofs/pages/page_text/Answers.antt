use Rattle.std.specs.Prelude.{string_bytes}
use Rattle.vx_tree.specs.Views.{bound_of, tree_of}
use Rattle.vx_run.proofs.Shown.{shown}
use Rattle.vx_run.proofs.pages.page_text.Goals as goal

pub evaluated_text-text-requires-clause-bound : goal.evaluated_text-text-requires-clause-bound
evaluated_text-text-requires-clause-bound c =
    let e = c.in_ok-bound.ensures in
    record { source = e.over.1; well_typed = e.well_typed; over = rw (← c.dtype.ensures) e.over.0 }

pub returns : goal.returns
returns c =
    shown string_bytes (tree_of c.args.source.now) (bound_of c.in_ok-bound.bound) c.args.batch.now _ c.evaluated_text-text.result
    c.dtype.ensures c.in_ok-bound.ensures.typed c.in_ok-bound.ensures.over.1 c.evaluated_text-text.ensures
