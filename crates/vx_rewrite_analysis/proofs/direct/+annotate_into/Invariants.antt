use Rattle.std.proofs.Common.{◌≡◌, ◌||◌, drop, List}
use Rattle.std.specs.Prelude.{is_some, ◌&&◌, Result}
use Rattle.vx_dtype.specs.declared.error.VortexError.{VortexError}
use Rattle.vx_tree.specs.Nodes.{size_of}
use Rattle.vx_tree.specs.Trees.{BoundTree, unbound}
use Rattle.vx_tree.specs.Views.{bound_of, bounds_of}
use Rattle.vx_rewrite_analysis.specs.Annotations.{answered, AnswersAlike, IsAnnotated}
use Rattle.vx_rewrite_analysis.specs.Keys.{key_of, entry_at}
use Rattle.vx_rewrite_analysis.specs.Reached.{is_reached_in}
use Rattle.vx_rewrite_analysis.specs.Refusals.{SaysBy, first_refusal_in}
use Rattle.vx_rewrite_analysis.proofs.direct.+annotate_into.Given as goal

-- once the nodes with answers that are reached from the children that are left have entries, all have; and what is refused first is refused by those that are left
abbrev pub invariant-loop-child : goal.invariant-loop-child
invariant-loop-child g l =
    ((answers : BoundTree → List _) → AnswersAlike g.A.PartialEq.eq (λ x r. goal.F-post g l.annotate x r) answers → IsAnnotated g.A.PartialEq.eq answers l.fn.annotations
    → IsAnnotated g.A.PartialEq.eq answers l.annotations
    × ((k : _) → ((is_reached_in (answered answers) (key_of k) (bounds_of (drop l.child-index l.child-items)) && answered answers (key_of k)) || is_some (entry_at (key_of k) l.annotations))
    ≡ ((is_reached_in (answered answers) (key_of k) (bounds_of l.child-items) && answered answers (key_of k)) || is_some (entry_at (key_of k) l.fn.annotations))))
    × ((said : BoundTree → Result (List _) VortexError) → SaysBy g.A.PartialEq.eq (λ x r. goal.F-post g l.annotate x r) said
    → first_refusal_in said (bounds_of (drop l.child-index l.child-items)) ≡ first_refusal_in said (bounds_of l.child-items))

abbrev pub decreases-annotate_into : goal.decreases-annotate_into
decreases-annotate_into g l = size_of (unbound (bound_of l.e.now))
