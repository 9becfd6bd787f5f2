-- What has no inconsistency is consistent, and stays so with more of that kind.
use Rattle.std.proofs.Common.{◌≡◌, ℕ, ◌≤◌, Bool, true, false, List, [], ◌∷◌, Option, Some, None, refl, sym, subst, arith}
use Rattle.std.proofs.lemmas.Bool.Decides.{nat_tests}
use Rattle.std.specs.Prelude.{IfSome, IsTrue, nat_le, not, if◌then◌else◌}
use Rattle.std.specs.List.{AllByRecursion}
use Rattle.vx_value.specs.Paths.{Path, equal_path}
use Rattle.vx_value.specs.Types.{Datum}
use Rattle.vx_prune_bounds.specs.Order.{at_most}
use Rattle.vx_prune_tree.specs.Consistent.{AreConsistent, IsConsistent, Inconsistency, are_at_most, are_ordered, inconsistency_of}
use Rattle.vx_prune_tree.specs.Stats.{FieldFacts, Facts, facts, put_facts}
use Rattle.vx_prune_tree.specs.declared.field_stats.Inconsistency.TheVariants.{MoreNullsThanRows, LeastAboveGreatest}

few : (known : Option ℕ) (rows : ℕ) → are_at_most known rows ≡ true → IfSome known (λ n. n ≤ rows)
few None rows e = tt
few (Some n) rows e = grind (arith, nat_tests)

in_order : (l g : Option Datum) → are_ordered l g ≡ true → IfSome l (λ v. IfSome g (λ w. IsTrue (at_most v w)))
in_order None g e = tt
in_order (Some v) None e = tt
in_order (Some v) (Some w) e = e

pub consistent : (rows : ℕ) (f : FieldFacts) → inconsistency_of rows f ≡ None → AreConsistent rows f
consistent rows f e = go (are_at_most f.nulls rows) (are_ordered f.least f.greatest) refl refl e
  where
    go : (a b : Bool) → are_at_most f.nulls rows ≡ a → are_ordered f.least f.greatest ≡ b →
        (if not a then Some MoreNullsThanRows else if not b then Some LeastAboveGreatest else None) ≡ None → AreConsistent rows f
    go true true p q e = record { nulls = few f.nulls rows p; ends = in_order f.least f.greatest q }
    go true false p q e = cc
    go false b p q e = cc

-- a chunk's entries with one in the place of that of its path, or behind them
pub consistent-put : (rows : ℕ) (fields : List (Path × FieldFacts)) (path : Path) (f : FieldFacts) → AreConsistent rows f →
    AllByRecursion (λ (entry : Path × FieldFacts). AreConsistent rows entry.1) fields → AllByRecursion (λ (entry : Path × FieldFacts). AreConsistent rows entry.1) (put_facts fields path f)
consistent-put rows [] path f h all = (h, tt)
consistent-put rows (x ∷ fields) path f h all = go (equal_path path x.0) refl (consistent-put rows fields path f h all.1)
  where
    go : (b : Bool) → equal_path path x.0 ≡ b → AllByRecursion (λ (entry : Path × FieldFacts). AreConsistent rows entry.1) (put_facts fields path f) →
        AllByRecursion (λ (entry : Path × FieldFacts). AreConsistent rows entry.1) (put_facts (x ∷ fields) path f)
    go true q rest = rw q (h, all.1)
    go false q rest = rw q (all.0, rest)
