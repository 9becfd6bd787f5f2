use Rattle.std.proofs.Common.{◌≡◌, ◌<◌, ◌++◌, ◌∷◌, [], true, arith, length, reverse, slice_set, get_or, rules, refl, sym, ap, subst, inl, inr, ◌∙◌}
use Rattle.std.specs.Prelude.{All, IsOkAnd, None, Some, is_some}
use Rattle.std.proofs.lemmas.List.{get_or_default, length-set}
use Rattle.std.proofs.lemmas.List.Elements.{All-push}
use Rattle.std.proofs.lemmas.Option.{none-some}
use Rattle.std.proofs.lemmas.Result.{err_from_is_err_and}
use Rattle.vx_rewrite_analysis.specs.Annotations.{is_some_item, answered, SameAnnotations}
use Rattle.vx_rewrite_analysis.specs.ByNumber.{looked_at_next, HasEach}
use Rattle.vx_rewrite_analysis.specs.Numbers.{has_node, tree_at}
use Rattle.vx_rewrite_analysis.proofs.Annotating.{items-alike}
use Rattle.vx_rewrite_analysis.proofs.ByNumber.{each-set}
use Rattle.vx_rewrite_analysis.proofs.Looking.{IsReaching, IsRefusing, waiting_size, size-again, size-next, all-none, popped, popped-within, next-low, next-within, reaching-first, reaching-again, reaching-next, reaching-last, reached-split, refusing-first, refusing-again, refusing-next, refusing-here, refusing-last, refuses-split}
use Rattle.vx_rewrite_analysis.proofs.Numbering.{has-read, node-children, tree-read}
use Rattle.vx_rewrite_analysis.proofs.Refusing.{refused-as}
use Rattle.vx_rewrite_analysis.proofs.reached.own_answers.Goals as goal

pub loop-number-init : goal.loop-number-init
loop-number-init g c =
    let ns = c.args.nodes.now in
    let own = c.in_ok-own.own.items in
    let none = c.in_ok-own.ensures.none in
    let items : c.push.new.self.items ≡ c.args.root ∷ [] = c.in_ok-push.ensures.items ∙ ap (λ ws. ws ++ c.args.root ∷ []) c.new-waiting.ensures.items in
    let waits : reverse c.push.new.self.items ≡ c.args.root ∷ [] = ap reverse items in
    record {
      count = c.in_ok-own.ensures.count;
      within = subst (All (λ k. k < length ns)) (sym waits) (All-push (λ k. k < length ns) [] c.args.root (all-none (λ k. k < length ns)) c.requires.within);
      own = λ answers alike i v has. absurd (none-some v (sym (none i) ∙ has));
      reaching = λ answers alike. subst (IsReaching (answered answers) ns (tree_at ns c.args.root) own) (sym waits) (reaching-first (answered answers) ns (tree_at ns c.args.root) own c.args.root refl none);
      refusals = λ said says. subst (IsRefusing said ns (tree_at ns c.args.root) own) (sym waits) (refusing-first said ns (tree_at ns c.args.root) own c.args.root refl none);
    }

pub index-requires : goal.index-requires
index-requires g c =
    let within = (popped-within (length c.args.nodes.now) c.loop-number.waiting.items c.pop.new.self.items c.in-Some.number c.in-Some.ensures.items c.loop-number.invariant.within).0 in
    let has : c.in-Some.number < length c.loop-number.own.items = omega (arith, within, c.loop-number.invariant.count) in
    search rules

pub answers_at-requires : goal.answers_at-requires
answers_at-requires g c =
    let left = popped-within (length c.args.nodes.now) c.loop-number.waiting.items c.pop.new.self.items c.in-Some.number c.in-Some.ensures.items c.loop-number.invariant.within in
    c.requires.callable c.index-nodes-number.result.tree (has-read c.args.nodes.now c.in-Some.number c.index-nodes-number.result left.0 c.index-nodes-number.is)

pub put_answers-requires : goal.put_answers-requires
put_answers-requires g c =
    let within = (popped-within (length c.args.nodes.now) c.loop-number.waiting.items c.pop.new.self.items c.in-Some.number c.in-Some.ensures.items c.loop-number.invariant.within).0 in
    omega (arith, within, c.loop-number.invariant.count)

pub offset_bounds-nodes-number : goal.offset_bounds-nodes-number
offset_bounds-nodes-number g c =
    let within : c.in-Some.number < length c.args.nodes.now =
    (popped-within (length c.args.nodes.now) c.loop-number.waiting.items c.pop.new.self.items c.in-Some.number c.in-Some.ensures.items c.loop-number.invariant.within).0 in
    search rules

pub bounds-nodes-number : goal.bounds-nodes-number
bounds-nodes-number g c =
    (popped-within (length c.args.nodes.now) c.loop-number.waiting.items c.pop.new.self.items c.in-Some.number c.in-Some.ensures.items c.loop-number.invariant.within).0

pub loop-number-preserved-then-is_some : goal.loop-number-preserved-then-is_some
loop-number-preserved-then-is_some g c =
    let ns = c.args.nodes.now in
    let own = c.loop-number.own.items in
    let root = tree_at ns c.args.root in
    let rest = reverse c.pop.new.self.items in
    let waits = popped c.loop-number.waiting.items c.pop.new.self.items c.in-Some.number c.in-Some.ensures.items in
    let within = (popped-within (length ns) c.loop-number.waiting.items c.pop.new.self.items c.in-Some.number c.in-Some.ensures.items c.loop-number.invariant.within).0 in
    let read : get_or own c.in-Some.number None ≡ c.index.result.now = get_or_default own c.in-Some.number None c.index.result.now (omega (arith, within, c.loop-number.invariant.count)) ∙ sym c.index.ensures in
    let some : is_some c.index.result.now ≡ true = search rules in
    let there = ap is_some read ∙ some in
    record {
      count = c.loop-number.invariant.count;
      within = (popped-within (length ns) c.loop-number.waiting.items c.pop.new.self.items c.in-Some.number c.in-Some.ensures.items c.loop-number.invariant.within).1;
      own = c.loop-number.invariant.own;
      reaching = λ answers alike.
          reaching-again (answered answers) ns root own c.in-Some.number rest there (subst (IsReaching (answered answers) ns root own) waits (c.loop-number.invariant.reaching answers alike));
      refusals = λ said says. refusing-again said ns root own c.in-Some.number rest there (subst (IsRefusing said ns root own) waits (c.loop-number.invariant.refusals said says));
    }

pub loop-number-smaller-then-is_some : goal.loop-number-smaller-then-is_some
loop-number-smaller-then-is_some g c =
    let ns = c.args.nodes.now in
    let n = c.in-Some.number in
    let waits = popped c.loop-number.waiting.items c.pop.new.self.items n c.in-Some.ensures.items in
    omega (arith, size-again ns n (reverse c.pop.new.self.items), ap (waiting_size ns) waits)

pub loop-number-smaller : goal.loop-number-smaller
loop-number-smaller g c =
    let ns = c.args.nodes.now in
    let n = c.in-Some.number in
    let v = c.in_ok-answers.answers in
    let node = c.index-nodes-number.result in
    let waits = popped c.loop-number.waiting.items c.pop.new.self.items n c.in-Some.ensures.items in
    let left = popped-within (length ns) c.loop-number.waiting.items c.pop.new.self.items n c.in-Some.ensures.items c.loop-number.invariant.within in
    let children = node-children ns c.requires.numbered n node left.0 c.index-nodes-number.is in
    omega (arith, size-next ns n (is_some_item v.items) node.children.items (reverse c.pop.new.self.items) children.0, ap (waiting_size ns) waits, ap (waiting_size ns) c.in_ok-answers.ensures.waiting)

pub loop-number-preserved : goal.loop-number-preserved
loop-number-preserved g c =
    let eq = g.A.PartialEq.eq in
    let ns = c.args.nodes.now in
    let own = c.loop-number.own.items in
    let root = tree_at ns c.args.root in
    let n = c.in-Some.number in
    let v = c.in_ok-answers.answers in
    let node = c.index-nodes-number.result in
    let rest = reverse c.pop.new.self.items in
    let next = looked_at_next v.items node in
    let waits = popped c.loop-number.waiting.items c.pop.new.self.items n c.in-Some.ensures.items in
    let left = popped-within (length ns) c.loop-number.waiting.items c.pop.new.self.items n c.in-Some.ensures.items c.loop-number.invariant.within in
    let tree = tree-read ns n node left.0 c.index-nodes-number.is in
    let children = node-children ns c.requires.numbered n node left.0 c.index-nodes-number.is in
    let low = next-low n (is_some_item v.items) node.children.items children.1 in
    let waiting : reverse c.answers_at.new.waiting.items ≡ next ++ rest = c.in_ok-answers.ensures.waiting in
    let asked = c.in_ok-answers.ensures.answers in
    let put : c.put_answers.new.own.items ≡ slice_set own n (Some v) = c.put_answers.ensures in
    let waits_then = reverse c.answers_at.new.waiting.items in
    record {
      count = ap length put ∙ length-set own n (Some v) ∙ c.loop-number.invariant.count;
      within = subst (All (λ k. k < length ns)) (sym waiting) (next-within n (length ns) next rest left.0 low left.1);
      own = λ answers alike.
          subst (HasEach (λ b v. SameAnnotations eq v.items (answers b)) ns) (sym put)
          (each-set (λ b v. SameAnnotations eq v.items (answers b)) ns own n v (subst (λ b. SameAnnotations eq v.items (answers b)) (asked.1 ∙ sym tree) (alike asked.0 v asked.2)) (c.loop-number.invariant.own answers alike));
      reaching = λ answers alike.
          let same = subst (λ b. SameAnnotations eq v.items (answers b)) (asked.1 ∙ sym tree) (alike asked.0 v asked.2) in
          let stop : answered answers (tree_at ns n) ≡ is_some_item v.items = sym (items-alike eq g.met.A.Eq.laws v.items (answers (tree_at ns n)) same) in
          subst (λ xs. IsReaching (answered answers) ns root xs waits_then) (sym put) (subst (IsReaching (answered answers) ns root (slice_set own n (Some v))) (sym waiting)
          (reaching-next (answered answers) ns root own n v next rest left.0 c.loop-number.invariant.count low (reached-split (answered answers) ns (tree_at ns n) (is_some_item v.items) node.children.items stop children.0)
          (subst (IsReaching (answered answers) ns root own) waits (c.loop-number.invariant.reaching answers alike))));
      refusals = λ said says.
          let same = subst (λ b. IsOkAnd (said b) (SameAnnotations eq v.items)) (asked.1 ∙ sym tree) (says asked.0 _ asked.2) in
          subst (λ xs. IsRefusing said ns root xs waits_then) (sym put) (subst (IsRefusing said ns root (slice_set own n (Some v))) (sym waiting)
          (refusing-next said ns root own n v next rest low (refuses-split said ns eq g.met.A.Eq.laws (tree_at ns n) v.items node.children.items same children.0)
          (subst (IsRefusing said ns root own) waits (c.loop-number.invariant.refusals said says))));
    }

pub returns-in_err-answers-clause-first : goal.returns-in_err-answers-clause-first
returns-in_err-answers-clause-first g c =
    let p = err_from_is_err_and c.from_residual-in_err-answers.result c.from_residual-in_err-answers.ensures.1 in
    rw (p.1, p.2) (λ said says.
    let ns = c.args.nodes.now in
    let n = c.in-Some.number in
    let node = c.index-nodes-number.result in
    let waits = popped c.loop-number.waiting.items c.pop.new.self.items n c.in-Some.ensures.items in
    let left = popped-within (length ns) c.loop-number.waiting.items c.pop.new.self.items n c.in-Some.ensures.items c.loop-number.invariant.within in
    let tree = tree-read ns n node left.0 c.index-nodes-number.is in
    let was = subst (IsRefusing said ns (tree_at ns c.args.root) c.loop-number.own.items) waits (c.loop-number.invariant.refusals said says) in
    elim c.in_err-answers.ensures.refusal [
      | inl spent ↦ inl spent
      | inr asked ↦ refusing-here said ns (tree_at ns c.args.root) c.loop-number.own.items n (reverse c.pop.new.self.items) _ was
          (refused-as said _ (tree_at ns n) _ (asked.1 ∙ sym tree) (says asked.0 _ asked.2))
    ])

pub returns-in_err-answers-clause-refusal : goal.returns-in_err-answers-clause-refusal
returns-in_err-answers-clause-refusal g c =
    let p = err_from_is_err_and c.from_residual-in_err-answers.result c.from_residual-in_err-answers.ensures.1 in
    let left = popped-within (length c.args.nodes.now) c.loop-number.waiting.items c.pop.new.self.items c.in-Some.number c.in-Some.ensures.items c.loop-number.invariant.within in
    rw (p.1, p.2) (elim c.in_err-answers.ensures.refusal [
      | inl spent ↦ inl spent
      | inr asked ↦ inr (asked.0, subst (λ b. has_node b c.args.nodes.now ≡ true) (sym asked.1) (has-read c.args.nodes.now c.in-Some.number c.index-nodes-number.result left.0 c.index-nodes-number.is), asked.2)
    ])

pub returns-clause-answers : goal.returns-clause-answers
returns-clause-answers g c =
    λ answers alike.
    let none : reverse c.loop-number.waiting.items ≡ [] = search rules in (
      c.loop-number.invariant.own answers alike,
      reaching-last (answered answers) c.args.nodes.now (tree_at c.args.nodes.now c.args.root) c.loop-number.own.items (reverse c.loop-number.waiting.items) none (c.loop-number.invariant.reaching answers alike),
    )

pub returns-clause-unrefused : goal.returns-clause-unrefused
returns-clause-unrefused g c =
    λ said says.
    let none : reverse c.loop-number.waiting.items ≡ [] = search rules in
    refusing-last said c.args.nodes.now (tree_at c.args.nodes.now c.args.root) c.loop-number.own.items (reverse c.loop-number.waiting.items) none (c.loop-number.invariant.refusals said says)
