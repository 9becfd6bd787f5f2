use Rattle.std.proofs.Common.{◌≡◌, ◌<◌, ◌+◌, ◌∷◌, [], true, false, arith, length, drop, get_or, rules, sym, ap, subst, ◌∙◌, length-append}
use Rattle.std.specs.Prelude.{All, None, Some, is_some, if◌then◌else◌}
use Rattle.std.specs.HashSet.{contains}
use Rattle.std.specs.List.{list_any}
use Rattle.std.proofs.lemmas.Option.{none-some, same_Some}
use Rattle.vx_rewrite_analysis.specs.Annotations.{is_some_item, answered, IsAnnotationsOf}
use Rattle.vx_rewrite_analysis.specs.ByNumber.{has_annotation, HasEach}
use Rattle.vx_rewrite_analysis.specs.Numbers.{tree_at}
use Rattle.vx_rewrite_analysis.proofs.ByNumber.{has-same}
use Rattle.vx_rewrite_analysis.proofs.Entering.{rest-next}
use Rattle.vx_rewrite_analysis.proofs.Numbering.{node-children}
use Rattle.vx_rewrite_analysis.proofs.Uniting.{HasSameSoFar, each-push, same-push, united-set, children-have}
use Rattle.vx_rewrite_analysis.proofs.annotations.sets_of.Goals as goal

pub loop-answers-init : goal.loop-answers-init
loop-answers-init g c =
    let own = c.args.own.items in
    let empty : c.in_ok-sets.sets.items ≡ [] = c.in_ok-sets.ensures.items in
    let all : c.into_iter-answers-iterator.result.rest.items ≡ own = search rules in
    record {
      left = all ∙ ap (λ xs. drop (length xs) own) (sym empty);
      count = omega (arith, ap length all, ap length empty, c.requires.count);
      same = λ i h. absurd (omega (arith, h, ap length empty));
      sets = λ answers root each reached i s has. absurd (none-some s (sym (ap (λ xs. get_or xs i None) empty) ∙ has));
    }

pub loop-answers-preserved-in_default : goal.loop-answers-preserved-in_default
loop-answers-preserved-in_default g c =
    let eq = g.A.PartialEq.eq in
    let own = c.args.own.items in
    let sets = c.loop-answers.sets.items in
    let rest : c.loop-answers.answers-iterator.rest.items ≡ c.in-Some.answers ∷ c.next.new.self.rest.items = search rules in
    let none : c.in-Some.answers ≡ None = search rules in
    let here = rest-next own (length sets) c.in-Some.answers None c.next.new.self.rest.items (sym rest ∙ c.loop-answers.invariant.left) in
    let put = c.in_ok-push.ensures.items in
    let longer : length c.push.new.self.items ≡ length sets + 1 = omega (arith, ap length put, length-append sets (None ∷ [])) in
    record {
      left = here.1 ∙ ap (λ n. drop n own) (sym longer);
      count = omega (arith, longer, ap length rest, c.loop-answers.invariant.count);
      same = subst (λ xs. HasSameSoFar xs own) (sym put) (same-push sets own None (sym (ap is_some (here.0 ∙ none))) c.loop-answers.invariant.same);
      sets = λ answers root each reached.
          subst (HasEach (IsAnnotationsOf eq answers) c.args.nodes.now) (sym put)
          (each-push (IsAnnotationsOf eq answers) c.args.nodes.now sets None (λ s e. absurd (none-some s e)) (c.loop-answers.invariant.sets answers root each reached));
    }

pub offset_bounds-nodes-number : goal.offset_bounds-nodes-number
offset_bounds-nodes-number g c =
    let rest : c.loop-answers.answers-iterator.rest.items ≡ c.in-Some.answers ∷ c.next.new.self.rest.items = search rules in
    let number : c.len-number.result ≡ length c.loop-answers.sets.items = search rules in
    let within : c.len-number.result < length c.args.nodes.now = omega (arith, number, ap length rest, c.loop-answers.invariant.count) in
    search rules

pub bounds-nodes-number : goal.bounds-nodes-number
bounds-nodes-number g c =
    let rest : c.loop-answers.answers-iterator.rest.items ≡ c.in-Some.answers ∷ c.next.new.self.rest.items = search rules in
    let number : c.len-number.result ≡ length c.loop-answers.sets.items = search rules in
    omega (arith, number, ap length rest, c.loop-answers.invariant.count)

pub set_at-requires : goal.set_at-requires
set_at-requires g c =
    λ j d h.
    let ns = c.args.nodes.now in
    let sets = c.loop-answers.sets.items in
    let node = c.index-nodes-number.result in
    let rest : c.loop-answers.answers-iterator.rest.items ≡ c.in-Some.answers ∷ c.next.new.self.rest.items = search rules in
    let number : c.len-number.result ≡ length sets = search rules in
    let within : length sets < length ns = omega (arith, ap length rest, c.loop-answers.invariant.count) in
    let children = node-children ns c.requires.numbered (length sets) node within (subst (λ k. node ≡ get_or ns k node) number c.index-nodes-number.is) in
    omega (arith, children.1 j d h, ap length c.as_slice.ensures.value)

pub loop-answers-preserved : goal.loop-answers-preserved
loop-answers-preserved g c =
    let eq = g.A.PartialEq.eq in
    let ns = c.args.nodes.now in
    let own = c.args.own.items in
    let sets = c.loop-answers.sets.items in
    let i = length sets in
    let v = c.in-Some-answers.answers in
    let set = c.in_ok-set.set in
    let node = c.index-nodes-number.result in
    let rest : c.loop-answers.answers-iterator.rest.items ≡ c.in-Some.answers ∷ c.next.new.self.rest.items = search rules in
    let here = rest-next own i c.in-Some.answers None c.next.new.self.rest.items (sym rest ∙ c.loop-answers.invariant.left) in
    let there : get_or own i None ≡ Some v = here.0 ∙ c.in-Some-answers.is in
    let put = c.in_ok-push-2.ensures.items in
    let longer : length c.push-in-loop-answers.new.self.items ≡ i + 1 = omega (arith, ap length put, length-append sets (Some set ∷ [])) in
    let number : c.len-number.result ≡ i = search rules in
    let within : i < length ns = omega (arith, ap length rest, c.loop-answers.invariant.count) in
    let children = node-children ns c.requires.numbered i node within (subst (λ k. node ≡ get_or ns k node) number c.index-nodes-number.is) in
    let ks = node.children.items in
    let has = subst (λ xs. (a : _) → contains eq set a ≡ (if is_some_item v.items then list_any (eq a) v.items else list_any (λ k. has_annotation eq a (get_or xs k None)) ks)) c.as_slice.ensures.value c.in_ok-set.ensures.set in
    record {
      left = here.1 ∙ ap (λ n. drop n own) (sym longer);
      count = omega (arith, longer, ap length rest, c.loop-answers.invariant.count);
      same = subst (λ xs. HasSameSoFar xs own) (sym put) (same-push sets own (Some set) (sym (ap is_some there)) c.loop-answers.invariant.same);
      sets = λ answers root each reached.
          let b = tree_at ns i in
          let before = c.loop-answers.invariant.sets answers root each reached in
          let have : answered answers b ≡ false → All (λ k. is_some (get_or sets k None) ≡ true) ks = λ goes j d h.
          c.loop-answers.invariant.same (get_or ks j d) (children.1 j d h) ∙ children-have (answered answers) root ns c.requires.numbered.1 own reached i ks within (ap is_some there) goes children.0 children.1 j d h in
          let is : IsAnnotationsOf eq answers b set = united-set eq answers ns sets g.met.A.Eq.laws b v.items ks set before (each i v there) children.0 have has in
          subst (HasEach (IsAnnotationsOf eq answers) ns) (sym put)
          (each-push (IsAnnotationsOf eq answers) ns sets (Some set) (λ s e. subst (IsAnnotationsOf eq answers b) (same_Some set s e) is) before);
    }

pub returns-clause-annotations : goal.returns-clause-annotations
returns-clause-annotations g c =
    λ answers root each reached.
    let all : length c.loop-answers.sets.items ≡ length c.args.nodes.now =
    omega (arith, c.loop-answers.answers-iterator.rest.ok.0, c.in-None.ensures.steps.0, c.loop-answers.invariant.count) in (
      c.loop-answers.invariant.sets answers root each reached,
      λ k. has-same k c.args.nodes.now c.loop-answers.sets.items c.args.own.items (omega (arith, all, c.requires.count)) c.loop-answers.invariant.same ∙ reached k,
    )
