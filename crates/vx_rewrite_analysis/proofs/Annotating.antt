-- A map of annotations, child by child.
use Rattle.std.proofs.Common.{◌≡◌, ◌<◌, arith, List, [], ◌∷◌, length, Bool, true, false, refl, sym, ap, ◌∙◌, true≢false}
use Rattle.std.specs.Prelude.{if◌then◌else◌}
use Rattle.std.specs.Cmp.{IsEquivalence}
use Rattle.std.specs.List.{list_any}
use Rattle.std.specs.HashSet.{HashSet, contains}
use Rattle.vx_tree.specs.Nodes.{bound_children_of}
use Rattle.vx_tree.specs.Trees.{BoundTree, scope, node}
use Rattle.vx_rewrite_analysis.specs.Annotations.{is_some_item, answered, SameAnnotations, is_annotation, is_annotation_in, IsAnnotationsOf}
use Rattle.vx_rewrite_analysis.proofs.Subtrees.{or_first}

pub some_item : {A : Type 0} (xs : List A) → 0 < length xs → is_some_item xs ≡ true
some_item [] h = absurd (omega arith)
some_item (x ∷ xs) h = refl

pub no_item : {A : Type 0} (xs : List A) → length xs ≡ 0 → is_some_item xs ≡ false
no_item [] h = refl
no_item (x ∷ xs) h = absurd (omega arith)

module _ {A : Type 0} (eq : A → A → Bool) where
  -- lists with the same annotations both have some or both none
  pub items-alike : IsEquivalence eq → (xs ys : List A) → SameAnnotations eq xs ys → is_some_item xs ≡ is_some_item ys
  items-alike q [] [] same = refl
  items-alike q [] (y ∷ ys) same = absurd (true≢false (sym (or_first (eq y y) (list_any (eq y) ys) (q.refl y)) ∙ sym (same y)))
  items-alike q (x ∷ xs) [] same = absurd (true≢false (sym (or_first (eq x x) (list_any (eq x) xs) (q.refl x)) ∙ same x))
  items-alike q (x ∷ xs) (y ∷ ys) same = refl

  module _ (answers : BoundTree → List A) where
    pub annotation-children : (a : A) (b : BoundTree) → is_annotation eq answers a b ≡ (if answered answers b then list_any (eq a) (answers b) else is_annotation_in eq answers a (bound_children_of b))
    annotation-children a (scope t) = own (answers (scope t))
      where
        own : (xs : List A) → list_any (eq a) xs ≡ (if is_some_item xs then list_any (eq a) xs else false)
        own [] = refl
        own (x ∷ xs) = refl
    annotation-children a (node t f bs) = refl

    -- a node with answers
    pub answered-set : {S : Type 0} (b : BoundTree) (own : List A) (s : HashSet A S) → SameAnnotations eq own (answers b) → answered answers b ≡ true
        → ((a : A) → contains eq s a ≡ list_any (eq a) own) → IsAnnotationsOf eq answers b s
    answered-set b own s same some has a =
        has a ∙ same a ∙ ap (λ x. if x then list_any (eq a) (answers b) else is_annotation_in eq answers a (bound_children_of b)) (sym some) ∙ sym (annotation-children a b)

    -- a node without
    pub unanswered-set : {S : Type 0} (b : BoundTree) (s : HashSet A S) → answered answers b ≡ false
        → ((a : A) → contains eq s a ≡ is_annotation_in eq answers a (bound_children_of b)) → IsAnnotationsOf eq answers b s
    unanswered-set b s none has a =
        has a ∙ ap (λ x. if x then list_any (eq a) (answers b) else is_annotation_in eq answers a (bound_children_of b)) (sym none) ∙ sym (annotation-children a b)
