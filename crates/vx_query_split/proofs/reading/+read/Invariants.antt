use Rattle.std.proofs.Common.{drop, List, map}
use Rattle.std.specs.Option.{option_copied}
use Rattle.vx_value.specs.Types.{Name}
use Rattle.vx_tree.specs.Views.{bounds_of}
use Rattle.vx_query_split.specs.Reads.{IsReadBy}
use Rattle.vx_query_split.proofs.Walked.{ReadSo}
use Rattle.vx_query_split.proofs.reading.+read.Given as goal

abbrev pub invariant-read_below-loop-child : goal.invariant-read_below-loop-child
invariant-read_below-loop-child l =
    (names : List Name) → IsReadBy l.scope names → ReadSo names (bounds_of l.children) (bounds_of (drop l.child-index l.children)) l.reads l.is_covered (map option_copied l.fn.met.items) (map option_copied l.met.items)
