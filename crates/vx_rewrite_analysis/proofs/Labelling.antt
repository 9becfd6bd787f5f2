-- A map of labels, child by child.
use Rattle.std.proofs.Common.{◌≡◌, ℕ, suc, ◌+◌, ◌<◌, get_or, drop, arith, List, [], ◌∷◌, ◌++◌, length, Bool, true, false, ◌||◌, refl, sym, ap, inl, inr, ◌∙◌}
use Rattle.std.specs.Prelude.{Option, Some, is_some, cond}
use Rattle.std.specs.HashMap.{HashMap}
use Rattle.std.proofs.lemmas.List.{at_drop_more}
use Rattle.vx_tree.specs.Equality.{equal_bound, equal_bound_equiv}
use Rattle.vx_tree.specs.Trees.{BoundTree, BoundTrees, no_bound, bound}
use Rattle.vx_tree.specs.declared.exact.ExactBoundExpr.{ExactBoundExpr}
use Rattle.vx_rewrite_analysis.specs.Keys.{key_of, entry_at}
use Rattle.vx_rewrite_analysis.specs.Labels.{label, merged}
use Rattle.vx_rewrite_analysis.specs.NumberedLabels.{HasLabels, HasLabelsFrom}
use Rattle.vx_rewrite_analysis.specs.Numbers.{node_tree, tree_at, has_node}
use Rattle.vx_rewrite_analysis.specs.declared.numbers.NumberedNode.{NumberedNode}
use Rattle.vx_rewrite_analysis.proofs.Numbering.{got-append}
use Rattle.vx_rewrite_analysis.proofs.Subtrees.{or_turn}

-- one more child is merged
pub merged-next : {L : Type 0} (own : BoundTree → L) (merge : L → L → L) (left rest : BoundTrees) (b : BoundTree) (l m all : L) → left ≡ bound b rest
    → m ≡ merge l (label own merge b) → merged own merge l left ≡ all → merged own merge m rest ≡ all
merged-next own merge left rest b l m all next e so_far = ap (λ x. merged own merge x rest) e ∙ sym (ap (merged own merge l) next) ∙ so_far

-- all children are merged
pub merged-end : {L : Type 0} (own : BoundTree → L) (merge : L → L → L) (left : BoundTrees) (l all : L) → left ≡ no_bound → merged own merge l left ≡ all → l ≡ all
merged-end own merge left l all none so_far = sym (ap (merged own merge l) none) ∙ so_far

-- ---- labels by number

-- one more node has its label
pub labels-push : {L : Type 0} (own : BoundTree → L) (merge : L → L → L) (ns : List NumberedNode) (ls : List L) (x : L) → HasLabels own merge ns ls
    → x ≡ label own merge (tree_at ns (length ls)) → HasLabels own merge ns (ls ++ x ∷ [])
labels-push own merge ns ls x has is i l got = elim (got-append ls x i l got) [
  | inl there ↦ has i l there
  | inr last ↦ last.1 ∙ is ∙ ap (λ k. label own merge (tree_at ns k)) (sym last.0)
]

-- the first of the labels that are left, and the others
pub labels-next : {L : Type 0} (own : BoundTree → L) (merge : L → L → L) (ns : List NumberedNode) (n : ℕ) (x : L) (ls : List L) → HasLabelsFrom own merge ns n (x ∷ ls)
    → (x ≡ label own merge (tree_at ns n)) × HasLabelsFrom own merge ns (n + 1) ls
labels-next own merge ns n x ls has =
    let here : n + 0 ≡ n = omega arith in
    (has 0 x refl ∙ ap (λ k. label own merge (tree_at ns k)) here, λ i l got. has (suc i) l got ∙ ap (λ k. label own merge (tree_at ns k)) (further i))
  where
    further : (i : ℕ) → n + suc i ≡ n + 1 + i
    further i = omega arith

-- one more node has an entry
pub entered-next : {X S : Type 0} (ns : List NumberedNode) (i : ℕ) (d : NumberedNode) (k : ExactBoundExpr) (x : X) (old new : HashMap ExactBoundExpr X S) (all : Bool) → i < length ns
    → entry_at (key_of k) new ≡ cond (equal_bound (node_tree (get_or ns i d)) (key_of k)) (Some x) (entry_at (key_of k) old)
    → (has_node (key_of k) (drop i ns) || is_some (entry_at (key_of k) old)) ≡ all → (has_node (key_of k) (drop (i + 1) ns) || is_some (entry_at (key_of k) new)) ≡ all
entered-next ns i d k x old new all within put so_far =
    let n = key_of k in
    let t = node_tree (get_or ns i d) in
    let rest = has_node n (drop (i + 1) ns) in
    let entered : is_some (entry_at n new) ≡ (equal_bound n t || is_some (entry_at n old)) =
    ap is_some put ∙ ap (λ same. is_some (cond same (Some x) (entry_at n old))) (equal_bound_equiv.symm t n) ∙ either (equal_bound n t) (entry_at n old) in
    ap (λ r. rest || r) entered ∙ sym (or_turn (equal_bound n t) rest (is_some (entry_at n old)))
    ∙ sym (ap (λ r. r || is_some (entry_at n old)) (at_drop_more (has_node n) ns i d within)) ∙ so_far
  where
    either : (same : Bool) (o : Option _) → is_some (cond same (Some x) o) ≡ (same || is_some o)
    either true o = refl
    either false o = refl
