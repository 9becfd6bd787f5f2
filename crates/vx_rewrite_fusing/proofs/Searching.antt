-- Pairs that are searched for at each And over what its children became.
use Rattle.std.proofs.Common.{◌≡◌, refl, sym, subst}
use Rattle.std.specs.Prelude.{Some, None, Result, Ok}
use Rattle.vx_dtype.specs.declared.error.VortexError.{VortexError}
use Rattle.vx_fn.specs.Functions.{and_also}
use Rattle.vx_tree.specs.Trees.{BoundTree, bound, no_bound, WellTyped}
use Rattle.vx_rewrite_fusing.specs.Conjuncts.{and_node, and_of, tree_in, Fused, FusedBelow, IsBinary}
use Rattle.vx_rewrite_fusing.specs.Finding.{more_fused, none_fused, tree_or, Finds}
use Rattle.vx_rewrite_fusing.specs.Merging.{IsFusedOf}
use Rattle.vx_rewrite_fusing.proofs.Ands.{and_parts_of}
use Rattle.vx_rewrite_fusing.proofs.Apart.{Found}
use Rattle.vx_rewrite_fusing.proofs.Children.{IsFusedBelow, itself_fused, over_fused, then_fused}
use Rattle.vx_rewrite_fusing.proofs.Growing.{fused_sides, typed_alike}
use Rattle.vx_rewrite_fusing.proofs.Merges.{merges_alike}

-- what is fused of a tree, if something is merged
abbrev pub IsSearched : BoundTree → Found → Type 0
IsSearched b c = Finds (Fused b) (λ u. IsFusedOf b (tree_in u)) (Ok c)

as_searched : (b : BoundTree) (c : Found) → IsSearched b c → IsFusedOf b (tree_or b c)
as_searched b None f = itself_fused b f
as_searched b (Some u) f = f.1

over_searched : {l r b : BoundTree} (c d : Found) (p : IsBinary and_also l r b) → WellTyped b → IsSearched l c → IsSearched r d → IsFusedBelow b (and_of (tree_or l c) (tree_or r d))
over_searched {l = l} {r = r} {b = b} c d p w f g =
    let typed : WellTyped (and_node p.0 l r) = subst WellTyped p.1 w in
    let parts = and_parts_of p.0 l r typed in
    let one = as_searched l c f in
    let two = as_searched r d g in
    let left = (merges_alike l (tree_or l c) one.count parts.left one.merges).1 in
    let right = (merges_alike r (tree_or r d) two.count parts.right two.merges).1 in
    subst (λ z. IsFusedBelow z (and_of (tree_or l c) (tree_or r d))) (sym p.1)
    (subst (IsFusedBelow (and_node p.0 l r)) (typed_alike p.0 l r (tree_or l c) (tree_or r d) typed left right)
    (over_fused (and_node p.0 l r) (bound (tree_or l c) (bound (tree_or r d) no_bound)) typed (more_fused one (more_fused two none_fused))))

some_searched : {l r b : BoundTree} (c d : Found) → IsBinary and_also l r b → IsSearched l c → IsSearched r d → ((c ≡ None) × (d ≡ None) → ⊥) → Fused b → ⊥
some_searched None None p f g n h = n (refl, refl)
some_searched (Some u) d p f g n h = f.0 (fused_sides p h).0
some_searched None (Some u) p f g n h = g.0 (fused_sides p h).1

-- where nothing is merged below the And
pub below_stays : {l r b : BoundTree} (c d : Found) (res : Result Found VortexError) → IsBinary and_also l r b → IsSearched l c → IsSearched r d → (res ≡ Ok None → (c ≡ None) × (d ≡ None)) → res ≡ Ok None → FusedBelow b
below_stays {l = l} {r = r} c d res p f g stays e =
    let n = stays e in
    let left : Fused l = subst (λ z. IsSearched l z) n.0 f in
    let right : Fused r = subst (λ z. IsSearched r z) n.1 g in
    subst FusedBelow (sym p.1) (left, (right, tt))

-- where something is
pub below_changes : {l r b : BoundTree} (c d : Found) (u : Found) → IsBinary and_also l r b → IsSearched l c → IsSearched r d → (c ≡ None → d ≡ None → ◌≡◌ {A = Result Found VortexError} (Ok u) (Ok None)) → (u ≡ None → ⊥) → Fused b → ⊥
below_changes c d u p f g whole n = some_searched c d p f g (λ m. n (let e : ◌≡◌ {A = Result Found VortexError} (Ok u) (Ok None) = whole m.0 m.1 in cc))

-- the And over what is merged, and what is merged of it
pub over_then : {l r b over u : BoundTree} (c d : Found) (p : IsBinary and_also l r b) → WellTyped b → IsSearched l c → IsSearched r d → over ≡ and_of (tree_or l c) (tree_or r d) → IsFusedOf over u → IsFusedOf b u
over_then {u = u} c d p w f g e m = then_fused (over_searched c d p w f g) (subst (λ z. IsFusedOf z u) e m)
