-- The annotations that are gathered from a closure's answers are those of the nodes.
use Rattle.std.proofs.Common.{◌≡◌, Bor, Bool, true, false, ◌||◌, List, [], ◌∷◌, refl, sym, ap, subst, ◌∙◌}
use Rattle.std.specs.Prelude.{◌&&◌, if◌then◌else◌, IfSome, None, not, Option, Result, Some, Vec, is_some}
use Rattle.std.specs.Cmp.{IsEquivalence}
use Rattle.std.specs.HashSet.{HashSet, IsUnique}
use Rattle.std.specs.declared.hash.BuildHasherDefault.{BuildHasherDefault}
use Rattle.std.specs.declared.hash.FoldHasher.{FoldHasher}
use Rattle.std.specs.List.{list_any}
use Rattle.std.specs.Option.{option_map}
use Rattle.std.proofs.lemmas.List.Folds.{list_any-append}
use Rattle.vx_dtype.specs.declared.error.VortexError.{VortexError}
use Rattle.vx_value.specs.Types.{LogicalType}
use Rattle.vx_fn.specs.Functions.{Function}
use Rattle.vx_tree.specs.Nodes.{bound_children_of}
use Rattle.vx_tree.specs.Trees.{BoundTree, scope, node, BoundTrees, no_bound, bound}
use Rattle.vx_tree.specs.declared.bound.BoundExpression.{BoundExpression}
use Rattle.vx_rewrite_analysis.specs.Annotations.{is_some_item, answered, AnswersAlike, SameAnnotations, is_annotation, is_annotation_in, IsAnnotationsOf}
use Rattle.vx_rewrite_analysis.specs.Answered.{tree_of, given_by, hasher_in}
use Rattle.vx_rewrite_analysis.specs.Keys.{key_of}
use Rattle.vx_rewrite_analysis.specs.Reached.{is_reached, is_reached_in}
use Rattle.vx_rewrite_analysis.specs.declared.answered.AnsweredNodes.{AnsweredNodes}
use Rattle.vx_rewrite_analysis.proofs.Annotating.{items-alike, annotation-children}
use Rattle.vx_rewrite_analysis.proofs.Given.{entry-of-given}
use Rattle.vx_rewrite_analysis.proofs.Subtrees.{or_first, or_second, and_true, reached-itself, reached-further}
use Rattle.vx_partition.specs.Found.{alone, found_of, set_of}
use Rattle.vx_partition.specs.Gathered.{answers_or, gathered, gathered_in, found_at, AreFound, gathered_map, IsOnly}
use Rattle.vx_partition.specs.Only.{only_annotation, only_key}
use Rattle.vx_partition.specs.Splitting.{IsMapOf}
use Rattle.vx_partition.specs.declared.found.Found.{Found}
use Rattle.vx_partition.proofs.Alone.{set-has, set-alone, set-once}

pub gathered-children : {A : Type 0} (given : BoundTree → Option (List A)) (b : BoundTree) → gathered given b ≡ answers_or (given b) (gathered_in given (bound_children_of b))
gathered-children given (scope t) = refl
gathered-children given (node t f bs) = refl

-- ---- with answers that are alike

module _ {A : Type 0} (eq : A → A → Bool) (q : IsEquivalence eq) (given : BoundTree → Option (List A)) (answers : BoundTree → List A) (root : BoundTree)
    (reached : (b : BoundTree) → is_some (given b) ≡ is_reached (answered answers) b root) (same : (b : BoundTree) (own : List A) → given b ≡ Some own → SameAnnotations eq own (answers b)) where
  abbrev stops : BoundTree → Bool
  stops b = answered answers b

  -- a node with answers
  some-gathered : (b : BoundTree) (a x : A) (own : List A) → given b ≡ Some (x ∷ own) → list_any (eq a) (gathered given b) ≡ is_annotation eq answers a b
  some-gathered b a x own e =
      let here : is_some_item (answers b) ≡ true = sym (items-alike eq q (x ∷ own) (answers b) (same b (x ∷ own) e)) in
      ap (list_any (eq a)) (gathered-children given b ∙ ap (λ o. answers_or o (gathered_in given (bound_children_of b))) e) ∙ same b (x ∷ own) e a
      ∙ sym (annotation-children eq answers a b ∙ chosen (answered answers b) here)
    where
      chosen : (t : Bool) → t ≡ true → (if t then list_any (eq a) (answers b) else is_annotation_in eq answers a (bound_children_of b)) ≡ list_any (eq a) (answers b)
      chosen true h = refl
      chosen false h = cc

  -- one without has what is gathered below it
  none-gathered : (b : BoundTree) (a : A) → given b ≡ Some [] → list_any (eq a) (gathered_in given (bound_children_of b)) ≡ is_annotation_in eq answers a (bound_children_of b)
      → list_any (eq a) (gathered given b) ≡ is_annotation eq answers a b
  none-gathered b a e below =
      let here : is_some_item (answers b) ≡ false = sym (items-alike eq q [] (answers b) (same b [] e)) in
      ap (list_any (eq a)) (gathered-children given b ∙ ap (λ o. answers_or o (gathered_in given (bound_children_of b))) e) ∙ below
      ∙ sym (annotation-children eq answers a b ∙ chosen (answered answers b) here)
    where
      chosen : (t : Bool) → t ≡ false → (if t then list_any (eq a) (answers b) else is_annotation_in eq answers a (bound_children_of b)) ≡ is_annotation_in eq answers a (bound_children_of b)
      chosen true h = cc
      chosen false h = refl

  -- what is reached below a node without is given
  given-below : (t : LogicalType) (f : Function) (bs : BoundTrees) → given (node t f bs) ≡ Some [] → (c : BoundTree) → is_reached_in stops c bs ≡ true → is_some (given c) ≡ true
  given-below t f bs e c h =
      let goes : answered answers (node t f bs) ≡ false = sym (items-alike eq q [] (answers (node t f bs)) (same (node t f bs) [] e)) in
      let here : is_reached stops (node t f bs) root ≡ true = sym (reached (node t f bs)) ∙ ap is_some e in
      reached c ∙ reached-further stops c (node t f bs) root here (or_second _ (not (stops (node t f bs)) && is_reached_in stops c bs) (and_true _ _ (ap not goes) h))

  mutual
    -- what is gathered at a node that is reached are its annotations
    pub gathered-is : (b : BoundTree) → is_some (given b) ≡ true → (a : A) → list_any (eq a) (gathered given b) ≡ is_annotation eq answers a b
    gathered-is (scope t) there a = cases (given (scope t)) refl there
      where
        cases : (o : Option (List A)) → given (scope t) ≡ o → is_some o ≡ true → list_any (eq a) (gathered given (scope t)) ≡ is_annotation eq answers a (scope t)
        cases None e h = cc
        cases (Some []) e h = none-gathered (scope t) a e refl
        cases (Some (x ∷ own)) e h = some-gathered (scope t) a x own e
    gathered-is (node t f bs) there a = cases (λ e. gathered-in-is bs (given-below t f bs e) a) (given (node t f bs)) refl there
      where
        cases : (given (node t f bs) ≡ Some [] → list_any (eq a) (gathered_in given bs) ≡ is_annotation_in eq answers a bs) → (o : Option (List A)) → given (node t f bs) ≡ o → is_some o ≡ true
            → list_any (eq a) (gathered given (node t f bs)) ≡ is_annotation eq answers a (node t f bs)
        cases below None e h = cc
        cases below (Some []) e h = none-gathered (node t f bs) a e (below e)
        cases below (Some (x ∷ own)) e h = some-gathered (node t f bs) a x own e

    gathered-in-is : (bs : BoundTrees) → ((c : BoundTree) → is_reached_in stops c bs ≡ true → is_some (given c) ≡ true) → (a : A) → list_any (eq a) (gathered_in given bs) ≡ is_annotation_in eq answers a bs
    gathered-in-is no_bound all a = refl
    gathered-in-is (bound b bs) all a =
        list_any-append (eq a) (gathered given b) (gathered_in given bs)
        ∙ ap (λ s. s || list_any (eq a) (gathered_in given bs)) (gathered-is b (all b (or_first (is_reached stops b b) (is_reached_in stops b bs) (reached-itself stops b))) a)
        ∙ ap (λ s. is_annotation eq answers a b || s) (gathered-in-is bs (λ c h. all c (or_second (is_reached stops c b) (is_reached_in stops c bs) h)) a)

-- ---- the map

module _ {A : Type 0} (eq : A → A → Bool) (q : IsEquivalence eq) (nodes : AnsweredNodes A) where
  -- what the map has at a node that is reached
  abbrev value : BoundTree → HashSet A (BuildHasherDefault FoldHasher)
  value c = set_of eq (hasher_in nodes) (gathered (given_by nodes) c)

  -- the map has a node's annotation alone where the node has
  only-gathered : (b : BoundTree) → only_annotation (gathered_map eq nodes) b ≡ alone (found_at eq nodes b)
  only-gathered b = ap only_key (entry-of-given value nodes b) ∙ cases (given_by nodes b) refl
    where
      cases : (o : Option (List A)) → given_by nodes b ≡ o → only_key (option_map (λ own. value b) o) ≡ alone (found_at eq nodes b)
      cases None e = sym (ap (λ l. alone (found_of eq l)) (gathered-children (given_by nodes) b ∙ ap (λ o. answers_or o (gathered_in (given_by nodes) (bound_children_of b))) e))
      cases (Some own) e = set-alone eq q (hasher_in nodes) (gathered (given_by nodes) b)

  -- so what each number has alone is what the map has
  pub found-only : (found : List (Found (Bor A))) → AreFound eq nodes found → IsOnly nodes (only_annotation (gathered_map eq nodes)) found
  found-only found are i h = ap alone (are i h) ∙ sym (only-gathered (tree_of nodes i))

  -- and the map has the closure's answers
  pub gathered-annotated : {Z : Type 0} (post : Bor BoundExpression → Result (Vec A Z) VortexError → Type 0) (root : BoundTree)
      → ((answers : BoundTree → List A) → AnswersAlike eq post answers → (b : BoundTree) → is_some (given_by nodes b) ≡ is_reached (answered answers) b root)
      → ((answers : BoundTree → List A) → AnswersAlike eq post answers → (b : BoundTree) (own : List A) → given_by nodes b ≡ Some own → SameAnnotations eq own (answers b))
      → IsMapOf eq post root (gathered_map eq nodes)
  gathered-annotated post root reached same = (
    λ k. subst (λ o. IfSome o (IsUnique eq)) (sym (entry-of-given value nodes (key_of k))) (once (key_of k) (given_by nodes (key_of k))),
    λ answers alike. (
      λ k. ap is_some (entry-of-given value nodes (key_of k)) ∙ mapped (key_of k) (given_by nodes (key_of k)) ∙ reached answers alike (key_of k),
      λ k. subst (λ o. IfSome o (IsAnnotationsOf eq answers (key_of k))) (sym (entry-of-given value nodes (key_of k))) (has answers alike (key_of k) (given_by nodes (key_of k)) refl),
    ),
  )
    where
      mapped : (b : BoundTree) (o : Option (List A)) → is_some (option_map (λ own. value b) o) ≡ is_some o
      mapped b None = refl
      mapped b (Some own) = refl

      once : (b : BoundTree) (o : Option (List A)) → IfSome (option_map (λ own. value b) o) (IsUnique eq)
      once b None = tt
      once b (Some own) = set-once eq (hasher_in nodes) (gathered (given_by nodes) b)

      has : (answers : BoundTree → List A) → AnswersAlike eq post answers → (b : BoundTree) (o : Option (List A)) → given_by nodes b ≡ o → IfSome (option_map (λ own. value b) o) (IsAnnotationsOf eq answers b)
      has answers alike b None e = tt
      has answers alike b (Some own) e = λ a. set-has eq q (hasher_in nodes) (gathered (given_by nodes) b) a ∙ gathered-is eq q (given_by nodes) answers root (reached answers alike) (same answers alike) b (ap is_some e) a
