-- Digests of numbered nodes.
use Rattle.std.proofs.Common.{◌≡◌, ℕ, suc, ◌<◌, get_or, arith, List, [], ◌∷◌, ◌++◌, length, map, refl, sym, ap, inl, inr, ◌∙◌, length-append}
use Rattle.std.specs.Prelude.{All}
use Rattle.std.proofs.Math.ListN.{get_or-append}
use Rattle.std.proofs.Math.Seq.{get_or-append_seam}
use Rattle.vx_tree.specs.Digests.{digest_of, digests_of}
use Rattle.vx_rewrite_analysis.specs.Numbers.{tree_at, trees_at, HasDigests}
use Rattle.vx_rewrite_analysis.proofs.OneNumber.{before-or-last}
use Rattle.vx_rewrite_analysis.specs.declared.numbers.NumberedNode.{NumberedNode}

-- the digests of lower numbers are those of their trees
pub digests-below : (ns : List NumberedNode) (ds ks : List ℕ) → HasDigests ns ds → All (λ k. k < length ds) ks → map (λ k. get_or ds k 0) ks ≡ digests_of (trees_at ns ks)
digests-below ns ds [] has below = refl
digests-below ns ds (k ∷ ks) has below =
    ap (λ d. d ∷ map (λ i. get_or ds i 0) ks) (has k (below 0 0 (omega arith)))
    ∙ ap (λ rest. digest_of (tree_at ns k) ∷ rest) (digests-below ns ds ks has (λ j d h. below (suc j) d (omega (arith, h))))

-- one more number has its digest
pub digests-push : (ns : List NumberedNode) (ds : List ℕ) (d : ℕ) → HasDigests ns ds → d ≡ digest_of (tree_at ns (length ds)) → HasDigests ns (ds ++ d ∷ [])
digests-push ns ds d has is i h = elim (before-or-last (length ds) i (omega (arith, h, length-append ds (d ∷ [])))) [
  | inl before ↦ get_or-append ds (d ∷ []) 0 i before ∙ has i before
  | inr last ↦ ap (λ n. get_or (ds ++ d ∷ []) n 0) last ∙ get_or-append_seam ds d [] 0 ∙ is ∙ ap (λ n. digest_of (tree_at ns n)) (sym last)
]
