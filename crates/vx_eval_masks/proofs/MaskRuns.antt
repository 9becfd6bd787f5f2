-- Runs, rows and masks, step by step.
use Rattle.std.proofs.Common.{◌≡◌, ℕ, ◌+◌, ◌-◌, ◌<◌, ◌≤◌, List, [], ◌∷◌, ◌++◌, length, get_or, drop, cond, refl, sym, ap, ◌∙◌, arith, zero, suc, Bool, true, false, Some, None, append_assoc}
use Rattle.std.specs.List.{filter, range_with_len}
use Rattle.std.proofs.lemmas.List.{append-nil, drop_more, get_or-drop, map-id}
use Rattle.std.proofs.lemmas.List.Elements.{filter-append}
use Rattle.std.proofs.lemmas.List.FromFn.{map-range_with_len_more}
use Rattle.std.proofs.lemmas.Bool.Decides.{nat_tests}
use Rattle.vx_eval_masks.specs.Masks.{runs_from, runs, up_to, IsNextRun, NoneFrom}

-- ---- runs

skipped : (m : List Bool) (d i s : ℕ) → i + d ≡ s → s ≤ length m → ((k : ℕ) → i ≤ k → k < s → get_or m k false ≡ false) → runs_from i None (drop i m) ≡ runs_from s None (drop s m)
skipped m zero i s e h off = let same : i ≡ s = omega arith in ap (λ j. runs_from j None (drop j m)) same
skipped m (suc d) i s e h off =
    let step : drop i m ≡ get_or m i false ∷ drop (i + 1) m = drop_more m i false (omega arith) in
    let here : get_or m i false ≡ false = off i (omega arith) (omega arith) in
    ap (runs_from i None) (step ∙ ap (λ b. b ∷ drop (i + 1) m) here) ∙ skipped m d (i + 1) s (omega arith) h (λ k lo hi. off k (omega arith) hi)

held : (m : List Bool) (d i e b : ℕ) → i + d ≡ e → e ≤ length m → ((k : ℕ) → i ≤ k → k < e → get_or m k false ≡ true) → runs_from i (Some b) (drop i m) ≡ runs_from e (Some b) (drop e m)
held m zero i e b q h on = let same : i ≡ e = omega arith in ap (λ j. runs_from j (Some b) (drop j m)) same
held m (suc d) i e b q h on =
    let step : drop i m ≡ get_or m i false ∷ drop (i + 1) m = drop_more m i false (omega arith) in
    let here : get_or m i false ≡ true = on i (omega arith) (omega arith) in
    ap (runs_from i (Some b)) (step ∙ ap (λ x. x ∷ drop (i + 1) m) here) ∙ held m d (i + 1) e b (omega arith) h (λ k lo hi. on k (omega arith) hi)

closed : (l : List Bool) (e b : ℕ) → get_or l 0 false ≡ false → runs_from e (Some b) l ≡ (b, e) ∷ runs_from e None l
closed [] e b h = refl
closed (false ∷ l) e b h = refl
closed (true ∷ l) e b h = cc

-- the next run comes first
pub next_is : (m : List Bool) (i s e : ℕ) → IsNextRun m i s e → runs_from i None (drop i m) ≡ (s, e) ∷ runs_from e None (drop e m)
next_is m i s e r =
    let low : i ≤ s = r.low in
    let some : s < e = r.run.some in
    let high : e ≤ length m = r.run.high in
    let begun : drop s m ≡ get_or m s false ∷ drop (s + 1) m = drop_more m s false (omega arith) in
    let here : get_or m s false ≡ true = r.run.on s (omega arith) some in
    let at : get_or (drop e m) 0 false ≡ get_or m (e + 0) false = get_or-drop e m 0 false in
    let same : e + 0 ≡ e = omega arith in
    skipped m (s - i) i s (omega arith) (omega arith) r.before
    ∙ ap (runs_from s None) (begun ∙ ap (λ x. x ∷ drop (s + 1) m) here)
    ∙ held m (e - (s + 1)) (s + 1) e s (omega arith) high (λ k lo hi. r.run.on k (omega arith) hi)
    ∙ closed (drop e m) e s (at ∙ ap (λ k. get_or m k false) same ∙ r.run.behind)

quiet : (l : List Bool) (i : ℕ) → ((k : ℕ) → get_or l k false ≡ false) → runs_from i None l ≡ []
quiet [] i h = refl
quiet (false ∷ l) i h = quiet l (i + 1) (λ k. h (suc k))
quiet (true ∷ l) i h = let no : true ≡ false = h 0 in cc

-- without a next run there is none
pub none_is : (m : List Bool) (i : ℕ) → NoneFrom m i → runs_from i None (drop i m) ≡ []
none_is m i h = quiet (drop i m) i (λ k. get_or-drop i m k false ∙ h (i + k) (omega arith))

pub run_pushed : (m : List Bool) (found new : List (ℕ × ℕ)) (i : ℕ) (r : ℕ × ℕ) → found ++ runs_from i None (drop i m) ≡ runs m → IsNextRun m i r.0 r.1 → new ≡ found ++ r ∷ [] →
    new ++ runs_from r.1 None (drop r.1 m) ≡ runs m
run_pushed m found new i r so_far next pushed =
    ap (λ l. l ++ runs_from r.1 None (drop r.1 m)) pushed ∙ append_assoc found (r ∷ []) (runs_from r.1 None (drop r.1 m)) ∙ ap (λ l. found ++ l) (sym (next_is m i r.0 r.1 next)) ∙ so_far

pub runs_ended : (m : List Bool) (found : List (ℕ × ℕ)) (i : ℕ) → found ++ runs_from i None (drop i m) ≡ runs m → NoneFrom m i → runs m ≡ found
runs_ended m found i so_far none = sym so_far ∙ ap (λ l. found ++ l) (none_is m i none) ∙ append-nil found

-- ---- how many runs

pub run_counted : (m : List Bool) (n i : ℕ) (r : ℕ × ℕ) → n + length (runs_from i None (drop i m)) ≡ length (runs m) → IsNextRun m i r.0 r.1 → n + 1 + length (runs_from r.1 None (drop r.1 m)) ≡ length (runs m)
run_counted m n i r so_far next =
    let more : length (runs_from i None (drop i m)) ≡ suc (length (runs_from r.1 None (drop r.1 m))) = ap length (next_is m i r.0 r.1 next) in
    omega arith

pub too_many : (m : List Bool) (n most i : ℕ) (r : ℕ × ℕ) → n + length (runs_from i None (drop i m)) ≡ length (runs m) → IsNextRun m i r.0 r.1 → n ≡ most → None ≡ up_to most (length (runs m))
too_many m n most i r so_far next same =
    let more : length (runs_from i None (drop i m)) ≡ suc (length (runs_from r.1 None (drop r.1 m))) = ap length (next_is m i r.0 r.1 next) in
    above most (length (runs m)) (omega arith)
  where
    above : (a b : ℕ) → a < b → None ≡ up_to a b
    above a b h = grind (arith, nat_tests)

pub all_counted : (m : List Bool) (n most i : ℕ) → n + length (runs_from i None (drop i m)) ≡ length (runs m) → n ≤ most → NoneFrom m i → Some n ≡ up_to most (length (runs m))
all_counted m n most i so_far few none =
    let no : length (runs_from i None (drop i m)) ≡ 0 = ap length (none_is m i none) in
    within n most (length (runs m)) (omega arith) few
  where
    within : (a b c : ℕ) → a ≡ c → a ≤ b → Some a ≡ up_to b c
    within a b c e h = grind (arith, nat_tests)

-- ---- the true rows

range_more : (n : ℕ) → range_with_len 0 (n + 1) ≡ range_with_len 0 n ++ n ∷ []
range_more n = sym (map-id (range_with_len 0 (n + 1))) ∙ map-range_with_len_more (λ k. k) 0 n n (omega arith) ∙ ap (λ l. l ++ n ∷ []) (map-id (range_with_len 0 n))

pub rows_more : (m : List Bool) (n : ℕ) → filter (λ k. get_or m k false) (range_with_len 0 (n + 1)) ≡ filter (λ k. get_or m k false) (range_with_len 0 n) ++ cond (get_or m n false) (n ∷ []) []
rows_more m n =
    ap (filter (λ k. get_or m k false)) (range_more n) ∙ filter-append (λ k. get_or m k false) (range_with_len 0 n) (n ∷ [])

pub row_kept : (m : List Bool) (n : ℕ) (found : List ℕ) → found ≡ filter (λ k. get_or m k false) (range_with_len 0 n) → get_or m n false ≡ false → found ≡ filter (λ k. get_or m k false) (range_with_len 0 (n + 1))
row_kept m n found so_far off = so_far ∙ sym (append-nil _) ∙ sym (rows_more m n ∙ ap (λ b. filter (λ k. get_or m k false) (range_with_len 0 n) ++ cond b (n ∷ []) []) off)

pub row_pushed : (m : List Bool) (n : ℕ) (found new : List ℕ) → found ≡ filter (λ k. get_or m k false) (range_with_len 0 n) → get_or m n false ≡ true → new ≡ found ++ n ∷ [] → new ≡ filter (λ k. get_or m k false) (range_with_len 0 (n + 1))
row_pushed m n found new so_far on pushed =
    pushed ∙ ap (λ l. l ++ n ∷ []) so_far ∙ sym (rows_more m n ∙ ap (λ b. filter (λ k. get_or m k false) (range_with_len 0 n) ++ cond b (n ∷ []) []) on)
