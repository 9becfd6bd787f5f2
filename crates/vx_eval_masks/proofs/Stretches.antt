-- The runs of a mask are its maximal true stretches.
use Rattle.std.proofs.Common.{◌≡◌, ℕ, ◌+◌, ◌<◌, ◌≤◌, List, [], ◌∷◌, length, get_or, drop, refl, sym, ap, ◌∙◌, arith, zero, suc, Bool, true, false, Some, None, inl, inr, ◌⊎◌, subst}
use Rattle.std.specs.List.{All}
use Rattle.std.proofs.lemmas.List.{length-drop, get_or_past}
use Rattle.std.proofs.lemmas.List.Elements.{All-nil, All-cons}
use Rattle.vx_eval_masks.specs.Masks.{runs_from, runs, IsIn, IsRun, AreRuns}

-- the runs, one after another, of the rows from row i on, before which none goes on
abbrev After : List Bool → ℕ → List (ℕ × ℕ) → Type 0
After m i [] = (k : ℕ) → i ≤ k → get_or m k false ≡ false
After m i (r ∷ rs) = IsRun m r × (i ≤ r.0) × ((k : ℕ) → i ≤ k → k < r.0 → get_or m k false ≡ false) × After m (suc r.1) rs

-- what stands at row i, and behind it
head_is : (m : List Bool) (i : ℕ) (b : Bool) (l : List Bool) → b ∷ l ≡ drop i m → (i < length m) × (get_or m i false ≡ b) × (l ≡ drop (suc i) m)
head_is [] zero b l e = cc
head_is [] (suc i) b l e = cc
head_is (x ∷ m) zero b l e = (omega arith, cc, cc)
head_is (x ∷ m) (suc i) b l e = let h = head_is m i b l e in (omega (arith, h.0), h.1, h.2)

next : (m l : List Bool) (i : ℕ) → l ≡ drop (suc i) m → l ≡ drop (i + 1) m
next m l i e = let same : suc i ≡ i + 1 = omega arith in e ∙ ap (λ j. drop j m) same

past : (m : List Bool) (i k : ℕ) → [] ≡ drop i m → i ≤ k → get_or m k false ≡ false
past m i k e le = get_or_past m k false (omega (arith, length-drop i m, ap length e))

at_or_after : (a b : ℕ) → a ≤ b → (a ≡ b) ⊎ (a + 1 ≤ b)
at_or_after a b le = grind arith

at_or_before : (a b : ℕ) → a < b + 1 → (a ≡ b) ⊎ (a < b)
at_or_before a b lt = grind arith

off_from : (m : List Bool) (i k : ℕ) → get_or m i false ≡ false → i ≤ k → ((i + 1 ≤ k) → get_or m k false ≡ false) → get_or m k false ≡ false
off_from m i k off le h = elim (at_or_after i k le) as (λ _. get_or m k false ≡ false) [ inl e ↦ ap (λ j. get_or m j false) (sym e) ∙ off | inr lt ↦ h lt ]

longer : (m : List Bool) (s i k : ℕ) → ((k : ℕ) → s ≤ k → k < i → get_or m k false ≡ true) → get_or m i false ≡ true → s ≤ k → k < i + 1 → get_or m k false ≡ true
longer m s i k on here lo hi = elim (at_or_before k i hi) as (λ _. get_or m k false ≡ true) [ inl e ↦ ap (λ j. get_or m j false) e ∙ here | inr lt ↦ on k lo lt ]

earlier : (m : List Bool) (i : ℕ) (rs : List (ℕ × ℕ)) → get_or m i false ≡ false → After m (i + 1) rs → After m i rs
earlier m i [] off h = λ k le. off_from m i k off le (h k)
earlier m i (r ∷ rs) off h = (h.0, omega (arith, h.1), (λ k lo hi. off_from m i k off lo (λ lt. h.2 k lt hi)), h.3)

mutual
  gaps : (m l : List Bool) (i : ℕ) → l ≡ drop i m → ((k : ℕ) → k + 1 ≡ i → get_or m k false ≡ false) → After m i (runs_from i None l)
  gaps m [] i e before = λ k le. past m i k e le
  gaps m (false ∷ l) i e before =
      let h = head_is m i false l e in
      earlier m i (runs_from (i + 1) None l) h.1 (gaps m l (i + 1) (next m l i h.2) (λ k q. let same : i ≡ k = omega arith in subst (λ j. get_or m j false ≡ false) same h.1))
  gaps m (true ∷ l) i e before =
      let h = head_is m i true l e in
      held m l (i + 1) i (next m l i h.2) (omega (arith, h.0)) (omega arith) (λ k lo hi. let same : i ≡ k = omega arith in subst (λ j. get_or m j false ≡ true) same h.1) before

  held : (m l : List Bool) (i s : ℕ) → l ≡ drop i m → i ≤ length m → s < i → ((k : ℕ) → s ≤ k → k < i → get_or m k false ≡ true) → ((k : ℕ) → k + 1 ≡ s → get_or m k false ≡ false) → After m s (runs_from i (Some s) l)
  held m [] i s e within lt on before =
      ((lt, within, on, before, past m i i e (omega arith)), omega arith, (λ k lo hi. absurd (omega arith)), (λ k le. past m i k e (omega arith)))
  held m (true ∷ l) i s e within lt on before =
      let h = head_is m i true l e in
      held m l (i + 1) s (next m l i h.2) (omega (arith, h.0)) (omega arith) (λ k lo hi. longer m s i k on h.1 lo hi) before
  held m (false ∷ l) i s e within lt on before =
      let h = head_is m i false l e in
      let same : i + 1 ≡ suc i = omega arith in (
        (lt, within, on, before, h.1),
        omega arith,
        (λ k lo hi. absurd (omega arith)),
        subst (λ j. After m j (runs_from (i + 1) None l)) same (gaps m l (i + 1) (next m l i h.2) (λ k q. let at : i ≡ k = omega arith in subst (λ j. get_or m j false ≡ false) at h.1)),
      )

each_run : (m : List Bool) (i : ℕ) (rs : List (ℕ × ℕ)) → After m i rs → All (IsRun m) rs
each_run m i [] h = All-nil (IsRun m)
each_run m i (r ∷ rs) h = All-cons (IsRun m) r rs h.0 (each_run m (suc r.1) rs h.3)

ordered : (m : List Bool) (i : ℕ) (rs : List (ℕ × ℕ)) → After m i rs → (j : ℕ) → j + 1 < length rs → (get_or rs j (0, 0)).1 < (get_or rs (j + 1) (0, 0)).0
ordered m i [] h j lt = absurd (omega arith)
ordered m i (r ∷ []) h j lt = absurd (omega arith)
ordered m i (r ∷ q ∷ rs) h zero lt = omega (arith, h.3.1)
ordered m i (r ∷ q ∷ rs) h (suc j) lt =
    let same : suc j + 1 ≡ suc (j + 1) = omega arith in
    subst (λ x. (get_or (q ∷ rs) j (0, 0)).1 < (get_or (r ∷ q ∷ rs) x (0, 0)).0) (sym same) (ordered m (suc r.1) (q ∷ rs) h.3 j (omega arith))

in_one : (m : List Bool) (i : ℕ) (rs : List (ℕ × ℕ)) → After m i rs → (k : ℕ) → i ≤ k → get_or m k false ≡ true → IsIn k rs
in_one m i [] h k le on = let off = h k le in cc
in_one m i (r ∷ rs) h k le on = elim (where_is r.0 r.1 k) as (λ _. IsIn k (r ∷ rs)) [
  | inl lt ↦ (let off = h.2 k le lt in cc)
  | inr (inl w) ↦ (0, omega arith, (w.0, w.1))
  | inr (inr (inl e)) ↦ (let off = h.0.4 in let same = ap (λ j. get_or m j false) e in cc)
  | inr (inr (inr lt)) ↦ (let t = in_one m (suc r.1) rs h.3 k lt on in (suc t.0, omega (arith, t.1), t.2))
]
  where
    where_is : (a b c : ℕ) → (c < a) ⊎ (((a ≤ c) × (c < b)) ⊎ ((c ≡ b) ⊎ (suc b ≤ c)))
    where_is a b c = grind arith

pub are_runs : (m : List Bool) → AreRuns m (runs m)
are_runs m =
    let h = gaps m m 0 refl (λ k e. absurd (omega arith)) in
    record { each = each_run m 0 (runs m) h; order = ordered m 0 (runs m) h; every = λ k on. in_one m 0 (runs m) h k (omega arith) on }
