-- The sets of annotations by number, from the lowest up.
use Rattle.std.proofs.Common.{◌≡◌, ℕ, zero, suc, ◌+◌, ◌<◌, ◌≤◌, drop, get_or, arith, List, [], ◌∷◌, ◌++◌, length, Bool, true, false, ◌||◌, refl, sym, ap, subst, inl, inr, ◌∙◌, length-append}
use Rattle.std.specs.Prelude.{◌⊎◌, All, Option, None, Some, is_some, if◌then◌else◌, not, ◌&&◌}
use Rattle.std.specs.Cmp.{IsEquivalence}
use Rattle.std.specs.HashSet.{HashSet, contains}
use Rattle.std.specs.List.{list_any}
use Rattle.std.proofs.Math.ListN.{get_or-append}
use Rattle.std.proofs.Math.Seq.{get_or-append_seam}
use Rattle.std.proofs.lemmas.List.{at_drop_more, at_drop_all}
use Rattle.vx_tree.specs.Nodes.{bound_children_of}
use Rattle.vx_tree.specs.Trees.{BoundTree}
use Rattle.vx_rewrite_analysis.specs.Annotations.{is_some_item, answered, SameAnnotations, is_annotation, is_annotation_in, IsAnnotationsOf}
use Rattle.vx_rewrite_analysis.specs.ByNumber.{has_annotation, HasEach, HasReached}
use Rattle.vx_rewrite_analysis.specs.Numbers.{tree_at, trees_at, HasOneNumberEach}
use Rattle.vx_rewrite_analysis.specs.Reached.{is_reached, is_reached_in}
use Rattle.vx_rewrite_analysis.specs.declared.numbers.NumberedNode.{NumberedNode}
use Rattle.vx_rewrite_analysis.proofs.Annotating.{items-alike, answered-set, unanswered-set}
use Rattle.vx_rewrite_analysis.proofs.ByNumber.{has-at, has-read}
use Rattle.vx_rewrite_analysis.proofs.OneNumber.{before-or-last}
use Rattle.vx_rewrite_analysis.proofs.Subtrees.{or_first, or_second, or_assoc, or_false, and_true, reached-children, reached-itself, reached-further}

-- ---- one more number

module _ {X : Type 0} where
  -- a number that has something has what it had, or is the last one
  some-push : (xs : List (Option X)) (o : Option X) (i : ℕ) (x : X) → get_or (xs ++ o ∷ []) i None ≡ Some x → (get_or xs i None ≡ Some x) ⊎ ((i ≡ length xs) × (o ≡ Some x))
  some-push [] o zero x has = inr (refl, has)
  some-push [] o (suc i) x has = inl has
  some-push (y ∷ xs) o zero x has = inl has
  some-push (y ∷ xs) o (suc i) x has = elim (some-push xs o i x has) [
    | inl before ↦ inl before
    | inr last ↦ inr (ap suc last.0, last.1)
  ]

  pub each-push : (P : BoundTree → X → Type 0) (ns : List NumberedNode) (xs : List (Option X)) (o : Option X) → ((x : X) → o ≡ Some x → P (tree_at ns (length xs)) x) → HasEach P ns xs
      → HasEach P ns (xs ++ o ∷ [])
  each-push P ns xs o here each i x has = elim (some-push xs o i x has) [
    | inl before ↦ each i x before
    | inr last ↦ subst (λ k. P (tree_at ns k) x) (sym last.0) (here x last.1)
  ]

-- the numbers so far have something where those of the others have
abbrev pub HasSameSoFar : {X Y : Type 0} → List (Option X) → List (Option Y) → Type 0
HasSameSoFar xs ys = (i : ℕ) → i < length xs → is_some (get_or xs i None) ≡ is_some (get_or ys i None)

pub same-push : {X Y : Type 0} (xs : List (Option X)) (ys : List (Option Y)) (o : Option X) → is_some o ≡ is_some (get_or ys (length xs) None) → HasSameSoFar xs ys → HasSameSoFar (xs ++ o ∷ []) ys
same-push xs ys o here same i h = elim (before-or-last (length xs) i (omega (arith, h, length-append xs (o ∷ [])))) [
  | inl below ↦ ap is_some (get_or-append xs (o ∷ []) None i below) ∙ same i below
  | inr last ↦ ap (λ k. is_some (get_or (xs ++ o ∷ []) k None)) last ∙ ap is_some (get_or-append_seam xs o [] None) ∙ here ∙ ap (λ k. is_some (get_or ys k None)) (sym last)
]

-- ---- the children's sets

-- one more child's set is added
pub any-next : (f : ℕ → Bool) (ks : List ℕ) (i : ℕ) (before after all : Bool) → i < length ks → after ≡ (before || f (get_or ks i 0)) → (before || list_any f (drop i ks)) ≡ all → (after || list_any f (drop (i + 1) ks)) ≡ all
any-next f ks i before after all h e so_far =
    ap (λ x. x || list_any f (drop (i + 1) ks)) e ∙ or_assoc before (f (get_or ks i 0)) (list_any f (drop (i + 1) ks))
    ∙ sym (ap (λ r. before || r) (at_drop_more (list_any f) ks i 0 h)) ∙ so_far

-- a child's that is not there adds nothing
pub any-none : (f : ℕ → Bool) (ks : List ℕ) (i : ℕ) (before all : Bool) → i < length ks → f (get_or ks i 0) ≡ false → (before || list_any f (drop i ks)) ≡ all → (before || list_any f (drop (i + 1) ks)) ≡ all
any-none f ks i before all h none so_far = any-next f ks i before before all h (sym (ap (λ x. before || x) none ∙ or_false before)) so_far

-- all children's are added
pub any-end : (f : ℕ → Bool) (ks : List ℕ) (i : ℕ) (last all : Bool) → length ks ≤ i → (last || list_any f (drop i ks)) ≡ all → last ≡ all
any-end f ks i last all h so_far = sym (ap (λ r. last || r) (at_drop_all (list_any f) ks i h) ∙ or_false last) ∙ so_far

module _ {A S : Type 0} (eq : A → A → Bool) (answers : BoundTree → List A) (ns : List NumberedNode) (sets : List (Option (HashSet A S))) where
  -- the sets of numbers that have some are together the annotations of their trees
  united : HasEach (IsAnnotationsOf eq answers) ns sets → (a : A) (ks : List ℕ) → All (λ k. is_some (get_or sets k None) ≡ true) ks
      → list_any (λ k. has_annotation eq a (get_or sets k None)) ks ≡ is_annotation_in eq answers a (trees_at ns ks)
  united each a [] have = refl
  united each a (k ∷ ks) have =
      ap (λ b. b || list_any (λ k. has_annotation eq a (get_or sets k None)) ks) (one (get_or sets k None) refl (have 0 0 (omega arith)))
      ∙ ap (λ b. is_annotation eq answers a (tree_at ns k) || b) (united each a ks (λ j d h. have (suc j) d (omega (arith, h))))
    where
      one : (o : Option (HashSet A S)) → get_or sets k None ≡ o → is_some o ≡ true → has_annotation eq a o ≡ is_annotation eq answers a (tree_at ns k)
      one None is there = cc
      one (Some s) is there = each k s is a

  -- a node's answers, or its children's sets together, are its annotations
  pub united-set : IsEquivalence eq → (b : BoundTree) (own : List A) (ks : List ℕ) (s : HashSet A S) → HasEach (IsAnnotationsOf eq answers) ns sets → SameAnnotations eq own (answers b) → trees_at ns ks ≡ bound_children_of b
      → (answered answers b ≡ false → All (λ k. is_some (get_or sets k None) ≡ true) ks)
      → ((a : A) → contains eq s a ≡ (if is_some_item own then list_any (eq a) own else list_any (λ k. has_annotation eq a (get_or sets k None)) ks))
      → IsAnnotationsOf eq answers b s
  united-set q b own ks s each same children have has = cases (is_some_item own) refl
    where
      cases : (some : Bool) → is_some_item own ≡ some → IsAnnotationsOf eq answers b s
      cases true e =
          answered-set eq answers b own s same (sym (items-alike eq q own (answers b) same) ∙ e)
          (λ a. has a ∙ ap (λ x. if x then list_any (eq a) own else list_any (λ k. has_annotation eq a (get_or sets k None)) ks) e)
      cases false e =
          let none : answered answers b ≡ false = sym (items-alike eq q own (answers b) same) ∙ e in
          unanswered-set eq answers b s none
          (λ a. has a ∙ ap (λ x. if x then list_any (eq a) own else list_any (λ k. has_annotation eq a (get_or sets k None)) ks) e
          ∙ united each a ks (have none) ∙ ap (is_annotation_in eq answers a) children)

-- ---- the children of a node that is reached

module _ {X : Type 0} (stops : BoundTree → Bool) (root : BoundTree) (ns : List NumberedNode) (one : HasOneNumberEach ns) (xs : List (Option X)) (reached : HasReached stops root ns xs) where
  reached-child : (ks : List ℕ) (j d : ℕ) → j < length ks → is_reached_in stops (tree_at ns (get_or ks j d)) (trees_at ns ks) ≡ true
  reached-child [] j d h = absurd (omega (arith, h))
  reached-child (k ∷ ks) zero d h = or_first _ (is_reached_in stops (tree_at ns k) (trees_at ns ks)) (reached-itself stops (tree_at ns k))
  reached-child (k ∷ ks) (suc j) d h = or_second (is_reached stops (tree_at ns (get_or ks j d)) (tree_at ns k)) _ (reached-child ks j d (omega (arith, h)))

  -- the children of one that doesn't stop and has something have something
  pub children-have : (i : ℕ) (ks : List ℕ) → i < length ns → is_some (get_or xs i None) ≡ true → stops (tree_at ns i) ≡ false → trees_at ns ks ≡ bound_children_of (tree_at ns i) → All (λ k. k < i) ks
      → All (λ k. is_some (get_or xs k None) ≡ true) ks
  children-have i ks h there goes children low j d lt =
      let child = tree_at ns (get_or ks j d) in
      let lower : get_or ks j d < i = low j d lt in
      let here : is_reached stops (tree_at ns i) root ≡ true = sym (reached (tree_at ns i)) ∙ has-read ns xs i h there in
      let next : is_reached_in stops child (bound_children_of (tree_at ns i)) ≡ true = subst (λ bs. is_reached_in stops child bs ≡ true) children (reached-child ks j d lt) in
      let below : is_reached stops child (tree_at ns i) ≡ true =
      reached-children stops child (tree_at ns i) ∙ or_second _ (not (stops (tree_at ns i)) && is_reached_in stops child (bound_children_of (tree_at ns i))) (and_true _ _ (ap not goes) next) in
      has-at ns one xs (get_or ks j d) (omega (arith, lower, h)) (reached child ∙ reached-further stops child (tree_at ns i) root here below)
