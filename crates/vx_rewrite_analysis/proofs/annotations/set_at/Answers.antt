use Rattle.std.proofs.Common.{◌≡◌, ℕ, ◌<◌, Bool, ◌||◌, arith, length, get_or, rules, sym, ap, subst, ◌∙◌}
use Rattle.std.specs.Prelude.{All, None, Some, if◌then◌else◌}
use Rattle.std.specs.HashSet.{contains}
use Rattle.std.specs.List.{list_any}
use Rattle.std.proofs.lemmas.List.{get_or_default}
use Rattle.vx_rewrite_analysis.specs.ByNumber.{has_annotation}
use Rattle.vx_rewrite_analysis.proofs.Annotating.{some_item, no_item}
use Rattle.vx_rewrite_analysis.proofs.Uniting.{any-next, any-none, any-end}
use Rattle.vx_rewrite_analysis.proofs.annotations.set_at.Goals as goal

pub returns-then-not-is_empty-clause-set : goal.returns-then-not-is_empty-clause-set
returns-then-not-is_empty-clause-set g c =
    λ a.
    let eq = g.A.PartialEq.eq in
    let own = c.args.answers.items in
    let some : 0 < length own = search rules in
    c.in_ok-set_of.ensures a
    ∙ ap (λ s. if s then list_any (eq a) own else list_any (λ k. has_annotation eq a (get_or c.args.sets.now k None)) c.args.node.now.children.items) (sym (some_item own some))

pub offset_bounds-sets-child : goal.offset_bounds-sets-child
offset_bounds-sets-child g c =
    let ks = c.as_slice-child-items.result.now in
    let all : All (λ k. k < length c.args.sets.now) ks = subst (All (λ k. k < length c.args.sets.now)) (sym c.as_slice-child-items.ensures) c.requires in
    let below : get_or ks c.loop-child.child-index 0 < length c.args.sets.now = all c.loop-child.child-index 0 (omega arith) in
    search rules

pub bounds-sets-child : goal.bounds-sets-child
bounds-sets-child g c =
    let ks = c.as_slice-child-items.result.now in
    let all : All (λ k. k < length c.args.sets.now) ks = subst (All (λ k. k < length c.args.sets.now)) (sym c.as_slice-child-items.ensures) c.requires in
    all c.loop-child.child-index 0 (omega arith)

pub loop-child-preserved-in_default : goal.loop-child-preserved-in_default
loop-child-preserved-in_default g c =
    λ a.
    let eq = g.A.PartialEq.eq in
    let ks = c.as_slice-child-items.result.now in
    let i = c.loop-child.child-index in
    let none : get_or c.args.sets.now (get_or ks i 0) None ≡ None = search rules in
    any-none (λ k. has_annotation eq a (get_or c.args.sets.now k None)) ks i (contains eq c.loop-child.set a) _ (omega arith) (ap (has_annotation eq a) none) (c.loop-child.invariant a)

pub loop-child-preserved : goal.loop-child-preserved
loop-child-preserved g c =
    λ a.
    let eq = g.A.PartialEq.eq in
    let ks = c.as_slice-child-items.result.now in
    let i = c.loop-child.child-index in
    let all : All (λ k. k < length c.args.sets.now) ks = subst (All (λ k. k < length c.args.sets.now)) (sym c.as_slice-child-items.ensures) c.requires in
    let read : get_or c.args.sets.now (get_or ks i 0) None ≡ c.index-sets-child.result =
    get_or_default c.args.sets.now (get_or ks i 0) None c.index-sets-child.result (all i 0 (omega arith)) ∙ sym c.index-sets-child.is in
    let some : c.index-sets-child.result ≡ Some c.in-Some.below = search rules in
    let there : get_or c.args.sets.now (get_or ks i 0) None ≡ Some c.in-Some.below = read ∙ some in
    any-next (λ k. has_annotation eq a (get_or c.args.sets.now k None)) ks i (contains eq c.loop-child.set a) _ _ (omega arith)
    (c.in_ok-add_all.ensures.added a ∙ ap (λ o. contains eq c.loop-child.set a || has_annotation eq a o) (sym there)) (c.loop-child.invariant a)

pub returns-clause-set : goal.returns-clause-set
returns-clause-set g c =
    λ a.
    let eq = g.A.PartialEq.eq in
    let own = c.args.answers.items in
    let ks = c.as_slice-child-items.result.now in
    let f : ℕ → Bool = λ k. has_annotation eq a (get_or c.args.sets.now k None) in
    let none : length own ≡ 0 = search rules in
    any-end f ks c.loop-child.child-index _ _ (omega arith) (c.loop-child.invariant a) ∙ ap (list_any f) c.as_slice-child-items.ensures
    ∙ ap (λ s. if s then list_any (eq a) own else list_any f c.args.node.now.children.items) (sym (no_item own none))
