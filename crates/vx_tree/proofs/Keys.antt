-- Keys of maps.
use Rattle.std.proofs.Common.{◌≡◌, ℕ, Bool, true, false, refl, sym, ap, ◌∙◌}
use Rattle.std.specs.Prelude.{nat_eq}
use Rattle.std.proofs.lemmas.Bool.{eq-eqb}
use Rattle.vx_tree.specs.Digests.{digest_of}
use Rattle.vx_tree.specs.Equality.{equal_bound, equal_bound-Decides}
use Rattle.vx_tree.specs.Trees.{BoundTree}

-- trees of different digests are different
pub digests-apart : (d e : ℕ) (b c : BoundTree) → d ≡ digest_of b → e ≡ digest_of c → nat_eq d e ≡ false → nat_eq d e ≡ equal_bound b c
digests-apart d e b c is also apart = apart ∙ cases (equal_bound b c) refl
  where
    cases : (same : Bool) → equal_bound b c ≡ same → false ≡ same
    cases true s = sym apart ∙ eq-eqb d e (is ∙ ap digest_of ((equal_bound-Decides b c).0 s) ∙ sym also)
    cases false s = refl
