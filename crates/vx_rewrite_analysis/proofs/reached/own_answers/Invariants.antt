use Rattle.std.proofs.Common.{◌≡◌, ◌<◌, length, reverse, List}
use Rattle.std.specs.Prelude.{All, Result}
use Rattle.vx_dtype.specs.declared.error.VortexError.{VortexError}
use Rattle.vx_tree.specs.Trees.{BoundTree}
use Rattle.vx_rewrite_analysis.specs.Annotations.{answered, AnswersAlike, SameAnnotations}
use Rattle.vx_rewrite_analysis.specs.ByNumber.{HasEach}
use Rattle.vx_rewrite_analysis.specs.Numbers.{tree_at}
use Rattle.vx_rewrite_analysis.specs.Refusals.{SaysBy}
use Rattle.vx_rewrite_analysis.proofs.Looking.{IsReaching, IsRefusing, waiting_size}
use Rattle.vx_rewrite_analysis.proofs.reached.own_answers.Given as goal

-- what is reached has answers or waits to be looked at, and what is refused first is refused by those that wait
abbrev pub invariant-loop-number : goal.invariant-loop-number
invariant-loop-number g l = record {
  count : length l.own.items ≡ length l.nodes;
  within : All (λ k. k < length l.nodes) (reverse l.waiting.items);
  own : (answers : BoundTree → List _) → AnswersAlike g.A.PartialEq.eq (λ x r. goal.F-post g l.annotate x r) answers → HasEach (λ b v. SameAnnotations g.A.PartialEq.eq v.items (answers b)) l.nodes l.own.items;
  reaching : (answers : BoundTree → List _) → AnswersAlike g.A.PartialEq.eq (λ x r. goal.F-post g l.annotate x r) answers
      → IsReaching (answered answers) l.nodes (tree_at l.nodes l.root) l.own.items (reverse l.waiting.items);
  refusals : (said : BoundTree → Result (List _) VortexError) → SaysBy g.A.PartialEq.eq (λ x r. goal.F-post g l.annotate x r) said
      → IsRefusing said l.nodes (tree_at l.nodes l.root) l.own.items (reverse l.waiting.items);
}

abbrev pub decreases-loop-number : goal.decreases-loop-number
decreases-loop-number g l = waiting_size l.nodes (reverse l.waiting.items)
