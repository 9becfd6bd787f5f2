use Rattle.std.proofs.Common.{◌≡◌, arith, length, drop}
use Rattle.vx_tree.specs.Views.{bounds_of}
use Rattle.vx_places.proofs.Holed.{columns_end}
use Rattle.vx_places.proofs.holes.columns_of.Goals as goal

pub returns : goal.returns
returns c =
    let none : length c.loop-column.column-iterator.rest.items ≡ 0 = omega (arith, c.loop-column.column-iterator.rest.ok.0, c.in-None.ensures.steps.0) in
    columns_end c.args.batch.now.rows (bounds_of (drop (length c.loop-column.columns.items) c.args.children.now)) c.loop-column.columns.items _ c.loop-column.column-iterator.rest.items none c.loop-column.invariant.seen c.loop-column.invariant.made
