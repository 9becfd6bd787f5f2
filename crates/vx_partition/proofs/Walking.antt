-- What numbers have, one more at a time, and what a walk by numbers meets.
use Rattle.std.proofs.Common.{◌≡◌, ℕ, zero, suc, ◌+◌, ◌<◌, ◌≤◌, Bor, Bool, true, List, [], ◌∷◌, ◌++◌, length, map, get_or, drop, take, refl, sym, ap, ◌∙◌, append_assoc, append-nil, length-append, inl, inr, arith}
use Rattle.std.specs.Prelude.{None, Option, Some, is_some}
use Rattle.std.specs.Cmp.{IsEquivalence}
use Rattle.std.specs.Option.{option_copied}
use Rattle.std.proofs.Math.Seq.{get_or-append_seam}
use Rattle.std.proofs.lemmas.List.{get_or_append_left, take_more}
use Rattle.vx_tree.specs.Nodes.{bound_children_of}
use Rattle.vx_tree.specs.Trees.{BoundTree, scope, node, BoundTrees}
use Rattle.vx_rewrite_analysis.specs.Answered.{tree_of, trees_of, given_by}
use Rattle.vx_rewrite_analysis.specs.declared.answered.AnsweredNodes.{AnsweredNodes}
use Rattle.vx_rewrite_analysis.proofs.Given.{trees-of-next, trees-of-end}
use Rattle.vx_rewrite_analysis.proofs.OneNumber.{before-or-last}
use Rattle.vx_partition.specs.Found.{found_copied, found_of, combined}
use Rattle.vx_partition.specs.Gathered.{answers_or, gathered, gathered_in, found_at, AreFound}
use Rattle.vx_partition.specs.Only.{annotations_met, annotations_met_in}
use Rattle.vx_partition.specs.declared.found.Found.{Found}
use Rattle.vx_partition.specs.declared.found.Found.TheVariants.{Nothing}
use Rattle.vx_partition.proofs.Alone.{found-append}
use Rattle.vx_partition.proofs.Gathered.{gathered-children}
use Rattle.vx_partition.proofs.Meeting.{copied_put}

take-all : {X : Type 0} (xs : List X) (i : ℕ) → length xs ≤ i → take i xs ≡ xs
take-all [] zero h = refl
take-all [] (suc i) h = refl
take-all (x ∷ xs) zero h = absurd (omega (arith, h))
take-all (x ∷ xs) (suc i) h = ap (λ l. x ∷ l) (take-all xs i (omega (arith, h)))

module _ {A : Type 0} (nodes : AnsweredNodes A) where
  abbrev below : List ℕ → List A
  below ks = gathered_in (given_by nodes) (trees_of nodes ks)

  below-append : (xs ys : List ℕ) → below (xs ++ ys) ≡ below xs ++ below ys
  below-append [] ys = refl
  below-append (x ∷ xs) ys = ap (λ l. gathered (given_by nodes) (tree_of nodes x) ++ l) (below-append xs ys) ∙ sym (append_assoc (gathered (given_by nodes) (tree_of nodes x)) (below xs) (below ys))

  below-more : (ks : List ℕ) (i : ℕ) → i < length ks → below (take (i + 1) ks) ≡ below (take i ks) ++ gathered (given_by nodes) (tree_of nodes (get_or ks i 0))
  below-more ks i h = ap below (take_more ks i 0 h) ∙ below-append (take i ks) (get_or ks i 0 ∷ []) ∙ ap (λ l. below (take i ks) ++ l) (append-nil (gathered (given_by nodes) (tree_of nodes (get_or ks i 0))))

  module _ (eq : A → A → Bool) where
    -- one more child
    pub together-next : IsEquivalence eq → (ks : List ℕ) (i : ℕ) (before here after : Found A) → i < length ks → before ≡ found_of eq (gathered_in (given_by nodes) (trees_of nodes (take i ks)))
        → here ≡ found_at eq nodes (tree_of nodes (get_or ks i 0)) → after ≡ combined eq before here → after ≡ found_of eq (gathered_in (given_by nodes) (trees_of nodes (take (i + 1) ks)))
    together-next q ks i before here after h so_far is put =
        put ∙ ap (λ x. combined eq x here) so_far ∙ ap (combined eq (found_of eq (below (take i ks)))) is
        ∙ sym (ap (found_of eq) (below-more ks i h) ∙ found-append eq q (below (take i ks)) (gathered (given_by nodes) (tree_of nodes (get_or ks i 0))))

    -- all children
    pub together-ends : (ks : List ℕ) (i : ℕ) (found : Found A) (bs : BoundTrees) → length ks ≤ i → trees_of nodes ks ≡ bs → found ≡ found_of eq (gathered_in (given_by nodes) (trees_of nodes (take i ks)))
        → found ≡ found_of eq (gathered_in (given_by nodes) bs)
    together-ends ks i found bs h trees so_far = so_far ∙ ap (λ l. found_of eq (below l)) (take-all ks i h) ∙ ap (λ cs. found_of eq (gathered_in (given_by nodes) cs)) trees

    -- ---- a node

    gathered-given : (b : BoundTree) (o : Option (List A)) → given_by nodes b ≡ o → gathered (given_by nodes) b ≡ answers_or o (gathered_in (given_by nodes) (bound_children_of b))
    gathered-given b o e = gathered-children (given_by nodes) b ∙ ap (λ p. answers_or p (gathered_in (given_by nodes) (bound_children_of b))) e

    pub found-unreached : (b : BoundTree) → given_by nodes b ≡ None → Nothing ≡ found_at eq nodes b
    found-unreached b e = sym (ap (found_of eq) (gathered-given b None e))

    pub found-own : (b : BoundTree) (own : List A) → given_by nodes b ≡ Some own → 0 < length own → found_of eq own ≡ found_at eq nodes b
    found-own b [] e h = absurd (omega (arith, h))
    found-own b (a ∷ own) e h = sym (ap (found_of eq) (gathered-given b (Some (a ∷ own)) e))

    pub found-below : (b : BoundTree) (own : List A) → given_by nodes b ≡ Some own → length own ≡ 0 → found_of eq (gathered_in (given_by nodes) (bound_children_of b)) ≡ found_at eq nodes b
    found-below b [] e h = sym (ap (found_of eq) (gathered-given b (Some []) e))
    found-below b (a ∷ own) e h = absurd (omega (arith, h))

    -- one more number
    pub found-push : (found : List (Found (Bor A))) (one : Found (Bor A)) → found_copied one ≡ found_at eq nodes (tree_of nodes (length found)) → AreFound eq nodes found → AreFound eq nodes (found ++ one ∷ [])
    found-push found one is are i h = elim (before-or-last (length found) i (omega (arith, h, length-append found (one ∷ [])))) [
      | inl before ↦ ap found_copied (get_or_append_left found (one ∷ []) Nothing i before) ∙ are i before
      | inr last ↦ ap (λ k. found_copied (get_or (found ++ one ∷ []) k Nothing)) last ∙ ap found_copied (get_or-append_seam found one [] Nothing) ∙ is ∙ ap (λ k. found_at eq nodes (tree_of nodes k)) (sym last)
    ]

  -- ---- the walk

  module _ (only : BoundTree → Option A) where
    met-children : (b : BoundTree) → only b ≡ None → annotations_met only b ≡ None ∷ annotations_met_in only (bound_children_of b)
    met-children (scope t) e = rw e refl
    met-children (node t f bs) e = rw e refl

    -- the node has none, and its children are left
    pub walk-starts : (ks : List ℕ) (old new : List (Option (Bor A))) (o : Option (Bor A)) → option_copied o ≡ None → new ≡ old ++ o ∷ []
        → map option_copied new ++ annotations_met_in only (trees_of nodes ks) ≡ map option_copied old ++ (None ∷ annotations_met_in only (trees_of nodes ks))
    walk-starts ks old new o e put = ap (λ ms. ms ++ annotations_met_in only (trees_of nodes ks)) (copied_put old new o None e put) ∙ append_assoc (map option_copied old) (None ∷ []) (annotations_met_in only (trees_of nodes ks))

    pub walk-next : (ks : List ℕ) (i : ℕ) (so_far new all : List (Option A)) → i < length ks → new ≡ so_far ++ annotations_met only (tree_of nodes (get_or ks i 0))
        → so_far ++ annotations_met_in only (trees_of nodes (drop i ks)) ≡ all → new ++ annotations_met_in only (trees_of nodes (drop (i + 1) ks)) ≡ all
    walk-next ks i so_far new all h put inv =
        let here = annotations_met only (tree_of nodes (get_or ks i 0)) in
        let left = annotations_met_in only (trees_of nodes (drop (i + 1) ks)) in
        ap (λ ms. ms ++ left) put ∙ append_assoc so_far here left ∙ ap (λ bs. so_far ++ annotations_met_in only bs) (sym (trees-of-next nodes ks i h)) ∙ inv

    pub walk-ends : (ks : List ℕ) (i : ℕ) (b : BoundTree) (old new : List (Option A)) → length ks ≤ i → only b ≡ None → trees_of nodes ks ≡ bound_children_of b
        → new ++ annotations_met_in only (trees_of nodes (drop i ks)) ≡ old ++ (None ∷ annotations_met_in only (trees_of nodes ks)) → new ≡ old ++ annotations_met only b
    walk-ends ks i b old new h e trees inv =
        sym (append-nil new) ∙ ap (λ bs. new ++ annotations_met_in only bs) (sym (trees-of-end nodes ks i h)) ∙ inv
        ∙ ap (λ bs. old ++ (None ∷ annotations_met_in only bs)) trees ∙ ap (λ ms. old ++ ms) (sym (met-children b e))

pub some-copied : {A : Type 0} (o : Option (Bor A)) → is_some o ≡ true → (a : A) × (option_copied o ≡ Some a)
some-copied None h = cc
some-copied (Some a) h = (a.now, refl)
