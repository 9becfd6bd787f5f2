use Rattle.std.proofs.Common.{rules, ◌≡◌, ◌<◌, ◌++◌, sym, subst, ap, ◌∙◌, arith, append_assoc}
use Rattle.std.specs.Prelude.{Err, vec_len}
use Rattle.vx_tree.specs.Nodes.{size_of}
use Rattle.vx_tree.specs.Trees.{unbound}
use Rattle.vx_tree.specs.Views.{bound_of}
use Rattle.vx_rewrite_fusing.specs.Places.{has_merged, IsLeftOver}
use Rattle.vx_rewrite_fusing.proofs.Binaries.{left_smaller, right_smaller}
use Rattle.vx_rewrite_fusing.proofs.Holding.{one_place, both_places, popped}
use Rattle.vx_rewrite_fusing.proofs.Telling.{left_both, left_merged, right_merged, told_one}
use Rattle.vx_rewrite_fusing.proofs.rest.+left_over.Goals as goal

pub returns-in_default : goal.returns-in_default
returns-in_default t c = record {
  left = λ front ps o e held.
      let one = one_place held c.in_default.ensures in
      let all = e ∙ ap (λ z. front ++ z) one.alone in
      let last = popped front one.place c.args.list.now.items c.pop.new.self.items c.pop.result all c.pop.ensures.items (λ none. let n : vec_len c.args.list.now ≡ 0 = (rw none at c.pop.ensures.cases).0 in omega (arith, c.args.list.now.ok.0)) in
      (last.0, told_one one c.became.result (c.became.ensures one.place last.1));
}

pub left_over-requires : goal.left_over-requires
left_over-requires t c =
    let smaller : size_of (unbound (bound_of c.in-Some.first.now)) < size_of (unbound (bound_of c.args.tree.now)) = left_smaller c.in-Some.ensures in
    search rules

pub left_over-requires-2 : goal.left_over-requires-2
left_over-requires-2 t c =
    let smaller : size_of (unbound (bound_of c.in-Some.second.now)) < size_of (unbound (bound_of c.args.tree.now)) = right_smaller c.in-Some.ensures in
    search rules

pub returns-in_err-before : goal.returns-in_err-before
returns-in_err-before t c = record {
  left = λ front ps o e held.
      let p = both_places c.in-Some.ensures held in
      let all = e ∙ (ap (λ z. front ++ z) p.parts ∙ sym (append_assoc front p.rights p.lefts)) in
      let err = c.in_err-before.ensures.left (front ++ p.rights) p.lefts p.left all p.on_left in
      let same : c.from_residual.result ≡ Err c.in_err-before.field-0.0 = search rules in
      subst (IsLeftOver (has_merged ps) c.left_over.new.list.items front (bound_of c.args.tree.now) o) (sym same) (left_merged ps p.rights p.lefts p.parts err.0, err.1);
}

pub returns-in_err-after : goal.returns-in_err-after
returns-in_err-after t c = record {
  left = λ front ps o e held.
      let p = both_places c.in-Some.ensures held in
      let all = e ∙ (ap (λ z. front ++ z) p.parts ∙ sym (append_assoc front p.rights p.lefts)) in
      let before = c.in_ok-before.ensures.left (front ++ p.rights) p.lefts p.left all p.on_left in
      let err = c.in_err-after.ensures.left front p.rights p.right before.0 p.on_right in
      let same : c.from_residual-in_err-after.result ≡ Err c.in_err-after.field-0.0 = search rules in
      subst (IsLeftOver (has_merged ps) c.left_over-2.new.list.items front (bound_of c.args.tree.now) o) (sym same) (right_merged ps p.rights p.lefts p.parts err.0, err.1);
}

pub returns : goal.returns
returns t c = record {
  left = λ front ps o e held.
      let p = both_places c.in-Some.ensures held in
      let all = e ∙ (ap (λ z. front ++ z) p.parts ∙ sym (append_assoc front p.rights p.lefts)) in
      let before = c.in_ok-before.ensures.left (front ++ p.rights) p.lefts p.left all p.on_left in
      let after = c.in_ok-after.ensures.left front p.rights p.right before.0 p.on_right in
      left_both (has_merged ps) (has_merged p.lefts) (has_merged p.rights) (bound_of c.in-Some.first.now) (bound_of c.in-Some.second.now) (bound_of c.args.tree.now) p.left p.right o c.in_ok-before.before c.in_ok-after.after c.rest_after.result
      (left_merged ps p.rights p.lefts p.parts) (right_merged ps p.rights p.lefts p.parts) p.whole p.tree before.1 after c.rest_after.ensures.rest c.rest_after.ensures.whole c.rest_after.ensures.memory;
}
