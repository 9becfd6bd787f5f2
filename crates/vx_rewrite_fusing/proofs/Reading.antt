-- What is read at an index of lists that are put together or changed at one index.
use Rattle.std.proofs.Common.{◌≡◌, ℕ, zero, suc, ◌<◌, List, [], ◌∷◌, ◌++◌, length, set, refl, ap, arith}
use Rattle.std.specs.Prelude.{Option, Some, None, slice_get}
use Rattle.vx_rewrite_fusing.specs.Places.{read_at}

module _ {A B : Type 0} (f : A → Option B) where
  pub read_inside : (xs : List A) (i : ℕ) (b : B) → read_at f xs i ≡ Some b → i < length xs
  read_inside [] i b e = cc
  read_inside (x ∷ xs) zero b e = omega arith
  read_inside (x ∷ xs) (suc i) b e = let h = read_inside xs i b e in omega arith

  pub read_past : (xs : List A) (i : ℕ) → slice_get xs i ≡ None → read_at f xs i ≡ None
  read_past [] i e = refl
  read_past (x ∷ xs) zero e = cc
  read_past (x ∷ xs) (suc i) e = read_past xs i e

  pub read_here : (xs : List A) (i : ℕ) (x : A) → slice_get xs i ≡ Some x → read_at f xs i ≡ f x
  read_here [] i x e = cc
  read_here (y ∷ xs) zero x e = let h : y ≡ x = cc in ap f h
  read_here (y ∷ xs) (suc i) x e = read_here xs i x e

  pub read_front : (xs ys : List A) (i : ℕ) → i < length xs → read_at f (xs ++ ys) i ≡ read_at f xs i
  read_front [] ys i l = absurd (omega arith)
  read_front (x ∷ xs) ys zero l = refl
  read_front (x ∷ xs) ys (suc i) l = read_front xs ys i (omega arith)

  pub read_behind : (xs : List A) (x : A) (ys : List A) → read_at f (xs ++ x ∷ ys) (length xs) ≡ f x
  read_behind [] x ys = refl
  read_behind (z ∷ xs) x ys = read_behind xs x ys

  pub read_set : (xs : List A) (i : ℕ) (x : A) → i < length xs → read_at f (set xs i x) i ≡ f x
  read_set [] i x l = absurd (omega arith)
  read_set (y ∷ xs) zero x l = refl
  read_set (y ∷ xs) (suc i) x l = read_set xs i x (omega arith)

  pub read_apart : (xs : List A) (i j : ℕ) (x : A) → (j ≡ i → ⊥) → read_at f (set xs i x) j ≡ read_at f xs j
  read_apart [] i j x n = refl
  read_apart (y ∷ xs) zero zero x n = absurd (n refl)
  read_apart (y ∷ xs) zero (suc j) x n = refl
  read_apart (y ∷ xs) (suc i) zero x n = refl
  read_apart (y ∷ xs) (suc i) (suc j) x n = read_apart xs i j x (λ e. n (ap suc e))
