-- What is left of trees, told from their places.
use Rattle.std.proofs.Common.{◌≡◌, List, [], ◌∷◌, ◌++◌, refl, sym, subst, ap, ◌∙◌, Bool, true, false, ◌||◌}
use Rattle.std.specs.Prelude.{Option, Some, None, Result, Ok, Err, IfErr, IfOk, IsTrue, MatchOption, option_map}
use Rattle.std.specs.Option.{option_flatten}
use Rattle.std.specs.declared.alloc.Global.{Global}
use Rattle.std.specs.declared.boxed.Box.{Box}
use Rattle.vx_dtype.specs.declared.error.VortexError.{VortexError}
use Rattle.vx_dtype.specs.declared.error.VortexError.TheVariants.{OutOfMemory}
use Rattle.vx_tree.specs.Trees.{BoundTree}
use Rattle.vx_tree.specs.declared.bound.BoundExpression.{BoundExpression}
use Rattle.vx_rewrite_fusing.specs.declared.places.Place.{Place}
use Rattle.vx_rewrite_fusing.specs.Conjuncts.{and_of, tree_in, conjoined, Fused}
use Rattle.vx_rewrite_fusing.specs.Finding.{Finds}
use Rattle.vx_rewrite_fusing.specs.Merging.{IsFusedOf}
use Rattle.vx_rewrite_fusing.specs.Places.{became_place, has_merged, rests, rest_of, IsLeftOver, IsTold}
use Rattle.vx_rewrite_fusing.specs.Sides.{TreeMerged}
use Rattle.vx_rewrite_fusing.proofs.Holding.{OnePlace, merged_append}

-- what is left of a tree, if something is
abbrev pub Left : Type 0
Left = Option (Option (Box BoundExpression Global))

-- ---- whether something changed

pub first_true : (a b : Bool) → IsTrue a → IsTrue (a || b)
first_true true b e = refl
first_true false b e = cc

pub second_true : (a b : Bool) → IsTrue b → IsTrue (a || b)
second_true true b e = refl
second_true false b e = e

-- the places of the right child stand in front
pub left_merged : (ps rights lefts : List Place) → ps ≡ rights ++ lefts → IsTrue (has_merged lefts) → IsTrue (has_merged ps)
left_merged ps rights lefts e h = rw (e, merged_append rights lefts) (second_true (has_merged rights) (has_merged lefts) h)

pub right_merged : (ps rights lefts : List Place) → ps ≡ rights ++ lefts → IsTrue (has_merged rights) → IsTrue (has_merged ps)
right_merged ps rights lefts e h = rw (e, merged_append rights lefts) (first_true (has_merged rights) (has_merged lefts) h)

-- ---- a single conjunct

became_merged : (b : Option (Box BoundExpression Global)) → IsTrue (has_merged (became_place b ∷ []))
became_merged None = refl
became_merged (Some b) = refl

pub told_one : {l : BoundTree} {ps : List Place} {o : Option BoundTree} (one : OnePlace l ps o) (left : Left) → MatchOption left (has_merged (one.place ∷ []) ≡ false) (λ b. one.place ≡ became_place b) → IsTold (has_merged ps) l o left
told_one one None h = one.stays h
told_one one (Some b) h = (rw (one.alone, h) (became_merged b), sym (one.merged b h))

-- ---- an And

-- what is left of an And, by what is left of its children
abbrev Tells : Bool → BoundTree → Option BoundTree → Result Left VortexError → Type 0
Tells k l o (Ok left) = IsTold k l o left
Tells k l o (Err e) = IsTrue k × (e ≡ OutOfMemory)

-- the tree that is left
abbrev left_tree : BoundTree → Left → Option BoundTree
left_tree x None = Some x
left_tree x (Some rest) = option_map tree_in rest

left_is : (k : Bool) (x : BoundTree) (o : Option BoundTree) (left : Left) → IsTold k x o left → o ≡ left_tree x left
left_is k x o None h = h
left_is k x o (Some rest) h = sym h.1

-- something changed
told_changed : (k : Bool) (l : BoundTree) (o v w : Option BoundTree) (res : Result Left VortexError) → IsTrue k → o ≡ conjoined v w → IfOk res (λ left. rests left ≡ Some (conjoined v w)) → IfErr res (λ e. e ≡ OutOfMemory) → Tells k l o res
told_changed k l o v w (Ok None) changed is a c = cc
told_changed k l o v w (Ok (Some left)) changed is a c = let z : option_map tree_in left ≡ conjoined v w = cc in (changed, z ∙ sym is)
told_changed k l o v w (Err e) changed is a c = (changed, c)

pub told_both : (k m n : Bool) (x y l : BoundTree) (ox oy o : Option BoundTree) (before after : Left) (res : Result Left VortexError) → (IsTrue m → IsTrue k) → (IsTrue n → IsTrue k) → l ≡ and_of x y → o ≡ conjoined ox oy → IsTold m x ox before → IsTold n y oy after
    → IfOk res (λ left. rests left ≡ rest_of x (rests before) y (rests after)) → (before ≡ None → after ≡ None → res ≡ Ok None) → IfErr res (λ e. e ≡ OutOfMemory) → Tells k l o res
told_both k m n x y l ox oy o before after res f g whole is h i a b c = go before after h i a b (is ∙ (ap (λ v. conjoined v oy) (left_is m x ox before h) ∙ ap (conjoined (left_tree x before)) (left_is n y oy after i)))
  where
    go : (before after : Left) → IsTold m x ox before → IsTold n y oy after → IfOk res (λ left. rests left ≡ rest_of x (rests before) y (rests after)) → (before ≡ None → after ≡ None → res ≡ Ok None) → o ≡ conjoined (left_tree x before) (left_tree y after) → Tells k l o res
    go None None h i a b is = subst (Tells k l o) (sym (b refl refl)) (is ∙ ap Some (sym whole))
    go None (Some r) h i a b is = told_changed k l o (Some x) (option_map tree_in r) res (g i.0) is a c
    go (Some q) None h i a b is = told_changed k l o (option_map tree_in q) (Some y) res (f h.0) is a c
    go (Some q) (Some r) h i a b is = told_changed k l o (option_map tree_in q) (option_map tree_in r) res (f h.0) is a c

-- with the places that are left in front
pub left_both : (k m n : Bool) {now front : List Place} (x y l : BoundTree) (ox oy o : Option BoundTree) (before after : Left) (res : Result Left VortexError) → (IsTrue m → IsTrue k) → (IsTrue n → IsTrue k) → l ≡ and_of x y → o ≡ conjoined ox oy
    → IsTold m x ox before → IsLeftOver n now front y oy (Ok after)
    → IfOk res (λ left. rests left ≡ rest_of x (rests before) y (rests after)) → (before ≡ None → after ≡ None → res ≡ Ok None) → IfErr res (λ e. e ≡ OutOfMemory) → IsLeftOver k now front l o res
left_both k m n x y l ox oy o before after (Ok left) f g whole is h i a b c = (i.0, told_both k m n x y l ox oy o before after (Ok left) f g whole is h i.1 a b c)
left_both k m n x y l ox oy o before after (Err e) f g whole is h i a b c = told_both k m n x y l ox oy o before after (Err e) f g whole is h i.1 a b c

-- ---- the whole tree

tree_found : {all back : List Place} {b : BoundTree} (left : Option (Box BoundExpression Global)) → (m : TreeMerged all back b) → IsTold (has_merged m.places) b (Some m.tree) (Some left) → Finds (Fused b) (λ u. IsFusedOf b (tree_in u)) (Ok left)
tree_found None m h = let z : ◌≡◌ {A = Option BoundTree} None (Some m.tree) = h.1 in cc
tree_found {b = b} (Some u) m h =
    let same : tree_in u ≡ m.tree = (let y : Some (tree_in u) ≡ Some m.tree = h.1 in cc) in
    let merged : has_merged m.places ≡ true = h.0 in
    (λ f. let none = m.stays f in cc, subst (IsFusedOf b) (sym same) m.fused)

tree_same : {all back : List Place} {b : BoundTree} (m : TreeMerged all back b) → Some m.tree ≡ Some b → Fused b
tree_same {b = b} m e = let z : m.tree ≡ b = cc in subst Fused z m.fused.fused

pub tree_told : {all back : List Place} {b : BoundTree} (left : Left) → (m : TreeMerged all back b) → IsTold (has_merged m.places) b (Some m.tree) left → Finds (Fused b) (λ u. IsFusedOf b (tree_in u)) (Ok (option_flatten left))
tree_told None m h = tree_same m h
tree_told (Some left) m h = tree_found left m h
