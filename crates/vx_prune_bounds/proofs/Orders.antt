-- Bytes in their order, and those that begin with others.
use Rattle.std.proofs.Common.{◌≡◌, ℕ, ◌<◌, true, List, [], ◌∷◌, ◌++◌, refl, arith, nat_eq, nat_cmp, is_le, is_lt, is_gt, not, ◌&&◌, Ordering, ◌⊎◌, inl, inr, Less, Equal, Greater}
use Rattle.std.specs.Cmp.Lexicographic.{slice_cmp}
use Rattle.std.specs.List.{starts_with}
use Rattle.std.specs.Ordering.{ordering_then}
use Rattle.std.proofs.lemmas.Bool.{and_from, eq-eqb}
use Rattle.std.proofs.lemmas.Bool.Decides.{nat_tests}
use Rattle.std.proofs.lemmas.Cmp.{ranked, by_ranked, tied_itself, nat_cmp_total}
use Rattle.vx_prune_bounds.specs.Beginnings.{beginning_cmp}

-- of two lists of which the one is at most the other, their first numbers, and what is left of them
heads : (x y : ℕ) (xs ys : List ℕ) → is_le (slice_cmp nat_cmp (x ∷ xs) (y ∷ ys)) ≡ true → (x < y) ⊎ ((x ≡ y) × (is_le (slice_cmp nat_cmp xs ys) ≡ true))
heads x y xs ys h = by_ranked (x < y) (x ≡ y) (y < x) (nat_cmp x y) (ranked x y (nat_cmp x y) refl)
    (λ e p. inl p)
    (λ e p. inr (p, rw e at h))
    (λ e p. let k = rw e at h in cc)

pub between_begins : (q t rest : List ℕ) → is_le (slice_cmp nat_cmp q t) ≡ true → is_le (slice_cmp nat_cmp t (q ++ rest)) ≡ true → starts_with nat_eq t q ≡ true
between_begins [] t rest a b = refl
between_begins (x ∷ q) [] rest a b = cc
between_begins (x ∷ q) (y ∷ t) rest a b =
    elim (heads x y q t a) [
      | inl l ↦ elim (heads y x t (q ++ rest) b) [ inl m ↦ absurd (omega arith) | inr m ↦ absurd (omega arith) ]
      | inr l ↦ elim (heads y x t (q ++ rest) b) [ inl m ↦ absurd (omega arith) | inr m ↦ and_from _ _ (eq-eqb x y l.0) (between_begins q t rest l.1 m.1) ]
    ]

pub le-append : (q rest : List ℕ) → is_le (slice_cmp nat_cmp q (q ++ rest)) ≡ true
le-append [] [] = refl
le-append [] (y ∷ rest) = refl
le-append (x ∷ q) rest = rw (tied_itself nat_cmp_total x) (le-append q rest)

-- what comes before the texts that begin so
pub beginning_cmp-gt : (q t : List ℕ) → is_gt (beginning_cmp q t) ≡ not (is_le (slice_cmp nat_cmp q t))
beginning_cmp-gt [] [] = refl
beginning_cmp-gt [] (y ∷ t) = refl
beginning_cmp-gt (x ∷ q) [] = refl
beginning_cmp-gt (x ∷ q) (y ∷ t) = by_test (nat_cmp x y) _ _ (beginning_cmp-gt q t)
  where
    by_test : (o a b : Ordering) → is_gt a ≡ not (is_le b) → is_gt (ordering_then o a) ≡ not (is_le (ordering_then o b))
    by_test Less a b e = refl
    by_test Equal a b e = e
    by_test Greater a b e = refl

-- what comes behind them
pub beginning_cmp-lt : (q t : List ℕ) → is_lt (beginning_cmp q t) ≡ is_le (slice_cmp nat_cmp q t) && not (starts_with nat_eq t q)
beginning_cmp-lt [] [] = refl
beginning_cmp-lt [] (y ∷ t) = refl
beginning_cmp-lt (x ∷ q) [] = refl
beginning_cmp-lt (x ∷ q) (y ∷ t) = let later = beginning_cmp-lt q t in grind (arith, nat_tests)
