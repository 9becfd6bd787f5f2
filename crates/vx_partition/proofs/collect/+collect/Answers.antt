use Rattle.std.proofs.Common.{◌≡◌, ◌+◌, ◌++◌, ◌∷◌, ◌∙◌, [], ap, append_assoc, drop, None, refl, rules, Some, subst, arith}
use Rattle.std.proofs.lemmas.Result.{IfOk-weaker}
use Rattle.std.specs.Option.{option_copied}
use Rattle.vx_fn.specs.Views.{function_of}
use Rattle.vx_value.specs.Views.{type_of}
use Rattle.vx_tree.specs.declared.bound.BoundExpression.{the_lemmas}
use Rattle.vx_tree.specs.Trees.{node}
use Rattle.vx_tree.specs.Views.{bound_of, bounds_of}
use Rattle.vx_partition.specs.Only.{annotations_met, annotations_met_in}
use Rattle.vx_partition.specs.Collecting.{groups_in, collected, SameGroups}
use Rattle.vx_partition.proofs.Collecting.{bounds_next, starts, goes_on, node_walked, piece_walked}
use Rattle.vx_partition.proofs.Meeting.{left_below, met_here}
use Rattle.vx_partition.proofs.collect.+collect.Goals as goal

pub collect_below-loop-child-init : goal.collect_below-loop-child-init
collect_below-loop-child-init g t c = λ only rest h. (
  h,
  λ before s.
      starts g.A.PartialEq.eq only before (bounds_of c.args.children.now) (bounds_of c.args.children.now) c.args.marks.now.items c.push.new.self.items (groups_in c.args.groups.now) refl c.in_ok-push.ensures.items s,
)

pub collect_below-loop-child-preserved : goal.collect_below-loop-child-preserved
collect_below-loop-child-preserved g t c = λ only rest h.
    let l = c.loop-child in
    let es = c.args.children.now in
    let i = l.child-index in
    let e = c.child-item.result in
    let below = annotations_met_in only (bounds_of (drop (i + 1) es)) in
    let inv = l.invariant only rest h in
    let next = inv.0 ∙ ap (λ bs. annotations_met_in only bs ++ rest) (bounds_next es i e (omega arith) c.child-item.is) ∙ append_assoc (annotations_met only (bound_of e)) below rest in (
      c.in_ok-found.ensures.left only (below ++ rest) next,
      λ before s.
          goes_on g.A.PartialEq.eq only before (bounds_of es) es i e l.some c.in_ok-found.found c.args.marks.now.items l.marks.items c.collect.new.marks.items
          (groups_in l.groups) (groups_in c.collect.new.groups) (omega arith) c.child-item.is (c.in_ok-found.ensures.walked only (below ++ rest) next) (inv.1 before s),
    )

pub collect-returns-in-Some-clause-walked : goal.collect-returns-in-Some-clause-walked
collect-returns-in-Some-clause-walked g t c = λ only rest h before s.
    let b = bound_of c.args.e.now in
    let a = c.in-Some.annotation.now in
    let is : option_copied c.next_met.result ≡ Some a = search rules in
    let same : bound_of c.in_ok-clone.field-0 ≡ b = search rules in
    let added = c.in_ok-mark.ensures.added before s in
    piece_walked g.A.PartialEq.eq only before b a c.in_ok-mark.mark c.args.marks.now.items c.push.new.self.items (groups_in c.add_piece.new.groups)
    (met_here only _ _ (option_copied c.next_met.result) c.next_met.ensures b rest h ∙ is) added.0 c.in_ok-push.ensures.items
    (subst (λ p. SameGroups g.A.PartialEq.eq (groups_in c.add_piece.new.groups) (collected g.A.PartialEq.eq (before ++ (a, p) ∷ []))) same added.1)

pub collect-returns-in-Scalar-clause-left : goal.collect-returns-in-Scalar-clause-left
collect-returns-in-Scalar-clause-left g t c =
    let b = bound_of c.args.e.now in
    let none : option_copied c.next_met.result ≡ None = search rules in
    let is : b ≡ node (type_of c.in-Scalar.dtype) (function_of c.in-Scalar.scalar_fn) (bounds_of c.as_slice.result.now) = search (rules, the_lemmas) in
    IfOk-weaker c.collect_below.result _ _ (λ some left only rest h.
    left only rest (left_below only _ _ (option_copied c.next_met.result) c.next_met.ensures b _ _ _ rest is none h)) c.collect_below.ensures.left

pub collect-returns-in-Scalar-clause-walked : goal.collect-returns-in-Scalar-clause-walked
collect-returns-in-Scalar-clause-walked g t c =
    let b = bound_of c.args.e.now in
    let none : option_copied c.next_met.result ≡ None = search rules in
    let is : b ≡ node (type_of c.in-Scalar.dtype) (function_of c.in-Scalar.scalar_fn) (bounds_of c.as_slice.result.now) = search (rules, the_lemmas) in
    IfOk-weaker c.collect_below.result _ _ (λ some walked only rest h before s.
    let below = left_below only _ _ (option_copied c.next_met.result) c.next_met.ensures b _ _ _ rest is none h in
    let here = met_here only _ _ (option_copied c.next_met.result) c.next_met.ensures b rest h ∙ none in
    node_walked g.A.PartialEq.eq only before b _ _ _ some c.args.marks.now.items c.collect_below.new.marks.items (groups_in c.collect_below.new.groups) is here (walked only rest below before s)) c.collect_below.ensures.walked
