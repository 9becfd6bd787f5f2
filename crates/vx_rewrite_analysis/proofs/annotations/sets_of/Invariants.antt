use Rattle.std.proofs.Common.{◌≡◌, ◌+◌, drop, length, List}
use Rattle.vx_tree.specs.Trees.{BoundTree}
use Rattle.vx_rewrite_analysis.specs.Annotations.{answered, SameAnnotations, IsAnnotationsOf}
use Rattle.vx_rewrite_analysis.specs.ByNumber.{HasEach, HasReached}
use Rattle.vx_rewrite_analysis.proofs.Uniting.{HasSameSoFar}
use Rattle.vx_rewrite_analysis.proofs.annotations.sets_of.Given as goal

-- the nodes so far have their annotations
abbrev pub invariant-loop-answers : goal.invariant-loop-answers
invariant-loop-answers g l = record {
  left : l.answers-iterator.rest.items ≡ drop (length l.sets.items) l.fn.own.items;
  count : length l.sets.items + length l.answers-iterator.rest.items ≡ length l.nodes;
  same : HasSameSoFar l.sets.items l.fn.own.items;
  sets : (answers : BoundTree → List _) (root : BoundTree) → HasEach (λ b v. SameAnnotations g.A.PartialEq.eq v.items (answers b)) l.nodes l.fn.own.items → HasReached (answered answers) root l.nodes l.fn.own.items
      → HasEach (IsAnnotationsOf g.A.PartialEq.eq answers) l.nodes l.sets.items;
}
