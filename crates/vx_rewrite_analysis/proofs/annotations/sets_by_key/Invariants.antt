use Rattle.std.proofs.Common.{◌≡◌, ◌+◌, ◌||◌, drop, length, List}
use Rattle.std.specs.Prelude.{is_some}
use Rattle.vx_tree.specs.Trees.{BoundTree}
use Rattle.vx_rewrite_analysis.specs.Annotations.{IsAnnotationsOf, IsAnnotated}
use Rattle.vx_rewrite_analysis.specs.ByNumber.{has_some, HasEach}
use Rattle.vx_rewrite_analysis.specs.Keys.{key_of, entry_at}
use Rattle.vx_rewrite_analysis.specs.Numbers.{HasDigests}
use Rattle.vx_rewrite_analysis.proofs.annotations.sets_by_key.Given as goal

-- once the nodes that are left have entries, all have; and the sets that are left are theirs
abbrev pub invariant-loop-set : goal.invariant-loop-set
invariant-loop-set g l = record {
  count : length l.digests.items + length l.set-iterator.rest.items ≡ length l.nodes;
  digests : HasDigests l.nodes l.digests.items;
  nodes : (k : _) → (has_some (key_of k) (drop (length l.digests.items) l.nodes) l.set-iterator.rest.items || is_some (entry_at (key_of k) l.by_key)) ≡ has_some (key_of k) l.nodes l.fn.sets.items;
  annotations : (answers : BoundTree → List _) → HasEach (IsAnnotationsOf g.A.PartialEq.eq answers) l.nodes l.fn.sets.items
      → HasEach (IsAnnotationsOf g.A.PartialEq.eq answers) (drop (length l.digests.items) l.nodes) l.set-iterator.rest.items × IsAnnotated g.A.PartialEq.eq answers l.by_key;
}
