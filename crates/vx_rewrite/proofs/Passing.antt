-- Passes keep the tree, one after another.
use Rattle.std.proofs.Common.{◌≡◌, ℕ, ◌+◌, ◌<◌, List, [], ◌∷◌, length, get_or, drop, drop-cons, add-one, subst, sym}
use Rattle.vx_tree.specs.Trees.{BoundTree, WellTyped}
use Rattle.vx_rewrite_core.specs.Keeps.{Keeps}
use Rattle.vx_rewrite_core.proofs.Keeping.{keeps_refl, keeps_trans}
use Rattle.vx_rewrite_fusing.proofs.Merges.{merges_alike}
use Rattle.vx_rewrite.specs.declared.passes.Pass.{Pass}
use Rattle.vx_rewrite.specs.declared.passes.Pass.TheVariants.{Optimize, OptimizeRecursive, FindBetween, Branches, Fold}
use Rattle.vx_rewrite.specs.Passes.{Gives, Passed}

-- one pass keeps
pub gives_keeps : (pass : Pass) (b u : BoundTree) → WellTyped b → Gives pass b u → Keeps b u
gives_keeps Optimize b u w g = g.keeps
gives_keeps OptimizeRecursive b u w g = g.keeps
gives_keeps FindBetween b u w g = (merges_alike b u g.count w g.merges).0
gives_keeps Branches b u w g = g.keeps
gives_keeps Fold b u w g = g.keeps

-- and so does a list of them
pub passed_keeps : (passes : List Pass) (b u : BoundTree) → WellTyped b → Passed passes b u → Keeps b u
passed_keeps [] b u w p = subst (Keeps b) (sym p) (keeps_refl b w)
passed_keeps (pass ∷ rest) b u w p =
    let k = gives_keeps pass b p.0 w p.1 in
    keeps_trans b p.0 u k (passed_keeps rest p.0 u k.typed_after p.2)

-- one pass, and then those behind it
pub passed_next : (passes : List Pass) (i : ℕ) (pass : Pass) (b c u : BoundTree) → i < length passes → pass ≡ get_or passes i pass
    → Gives pass b c → Passed (drop (i + 1) passes) c u → Passed (drop i passes) b u
passed_next passes i pass b c u h is g rest = rw (drop-cons passes i pass h, ← is) (c, g, rw add-one at rest)
