use Rattle.std.proofs.Common.{◌≡◌, drop, length}
use Rattle.vx_dtype.specs.Joins.{join_fields}
use Rattle.vx_dtype.specs.Views.{fields_view}
use Rattle.vx_dtype.proofs.Built.{before}
use Rattle.vx_dtype.proofs.joins.+join.Given as goal

abbrev pub invariant-join_fields-loop-i : goal.invariant-join_fields-loop-i
invariant-join_fields-loop-i l =
    (length l.made.items ≡ l.i)
    × (before l.names l.made.items (join_fields (fields_view (drop l.i l.names) (drop l.i l.types)) (fields_view (drop l.i l.others) (drop l.i l.kinds)))
    ≡ join_fields (fields_view l.names l.types) (fields_view l.others l.kinds))
