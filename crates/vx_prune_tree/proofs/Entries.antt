-- Entries by their paths.
use Rattle.std.proofs.Common.{◌≡◌, ℕ, ◌+◌, ◌<◌, Bool, true, false, List, [], ◌∷◌, ◌++◌, length, get_or, set, map, Some, None, zero, suc, refl, sym, ap, ◌∙◌, arith}
use Rattle.std.specs.Prelude.{position}
use Rattle.std.specs.List.{position_from}
use Rattle.std.proofs.lemmas.List.{map-append}
use Rattle.std.proofs.lemmas.Iterator.Adapters.{position_from-zero}
use Rattle.std.proofs.lemmas.List.Quantifiers.{position-Some}
use Rattle.vx_value.specs.Deciding.{equal_path_equiv}
use Rattle.vx_value.specs.Paths.{Path, equal_path}
use Rattle.vx_prune_tree.specs.declared.field_stats.FieldStats.{FieldStats}
use Rattle.vx_prune_tree.specs.Stats.{FieldFacts, facts, entry_at, facts_at, put_facts}
use Rattle.vx_prune_tree.specs.Views.{entry_facts, stats_facts}

abbrev Entries : Type 0
Entries = List (Path × FieldStats)

-- ---- no entry of the path

nowhere : (path : Path) (i : ℕ) (es : Entries) → position_from (λ e. equal_path path e.0) i es ≡ None → entry_at (map entry_facts es) path ≡ None
nowhere path i [] h = refl
nowhere path i (e ∷ es) h = go (equal_path path e.0) refl h (nowhere path (i + 1) es)
  where
    go : (b : Bool) → equal_path path e.0 ≡ b → position_from (λ x. equal_path path x.0) i (e ∷ es) ≡ None → (position_from (λ x. equal_path path x.0) (i + 1) es ≡ None → entry_at (map entry_facts es) path ≡ None) →
        entry_at (map entry_facts (e ∷ es)) path ≡ None
    go true q h rest = let s = rw q at h in cc
    go false q h rest = let s = rw q at h in rw q (rest s)

pub entry_at-none : (path : Path) (es : Entries) → None ≡ position (λ e. equal_path path e.0) es → entry_at (map entry_facts es) path ≡ None
entry_at-none path es h = nowhere path 0 es (sym (h ∙ position_from-zero (λ e. equal_path path e.0) es))

behind : (path : Path) (i : ℕ) (es : Entries) (f : FieldFacts) → position_from (λ e. equal_path path e.0) i es ≡ None → put_facts (map entry_facts es) path f ≡ map entry_facts es ++ (path, f) ∷ []
behind path i [] f h = refl
behind path i (e ∷ es) f h = go (equal_path path e.0) refl h (behind path (i + 1) es f)
  where
    go : (b : Bool) → equal_path path e.0 ≡ b → position_from (λ x. equal_path path x.0) i (e ∷ es) ≡ None →
        (position_from (λ x. equal_path path x.0) (i + 1) es ≡ None → put_facts (map entry_facts es) path f ≡ map entry_facts es ++ (path, f) ∷ []) →
        put_facts (map entry_facts (e ∷ es)) path f ≡ map entry_facts (e ∷ es) ++ (path, f) ∷ []
    go true q h rest = let s = rw q at h in cc
    go false q h rest = let s = rw q at h in rw q (ap (λ x. entry_facts e ∷ x) (rest s))

pub put_facts-none : (path : Path) (es : Entries) (f : FieldFacts) → None ≡ position (λ e. equal_path path e.0) es → put_facts (map entry_facts es) path f ≡ map entry_facts es ++ (path, f) ∷ []
put_facts-none path es f h = behind path 0 es f (sym (h ∙ position_from-zero (λ e. equal_path path e.0) es))

-- ---- the first entry of the path

found : (path : Path) (es : Entries) (k : ℕ) (e : Path × FieldStats) → k < length es → equal_path path (get_or es k e).0 ≡ true → ((j : ℕ) → j < k → equal_path path (get_or es j e).0 ≡ false) →
    entry_at (map entry_facts es) path ≡ Some (stats_facts (get_or es k e).1)
found path [] k e h here before = absurd (omega arith)
found path (x ∷ es) zero e h here before = rw here refl
found path (x ∷ es) (suc k) e h here before = rw (before 0 (omega arith)) (found path es k e (omega arith) here (λ j lt. before (suc j) (omega arith)))

pub entry_at-some : (path : Path) (es : Entries) (k : ℕ) (e : Path × FieldStats) → Some k ≡ position (λ x. equal_path path x.0) es → e ≡ get_or es k e → Some (stats_facts e.1) ≡ entry_at (map entry_facts es) path
entry_at-some path es k e h is =
    let p = position-Some (λ (x : Path × FieldStats). equal_path path x.0) es k e (sym h) in
    ap (λ (x : Path × FieldStats). Some (stats_facts x.1)) is ∙ sym (found path es k e p.0 p.1 p.2)

replaced : (path : Path) (es : Entries) (k : ℕ) (e : Path × FieldStats) (s : FieldStats) → k < length es → equal_path path (get_or es k e).0 ≡ true → ((j : ℕ) → j < k → equal_path path (get_or es j e).0 ≡ false) →
    put_facts (map entry_facts es) path (stats_facts s) ≡ map entry_facts (set es k ((get_or es k e).0, s))
replaced path [] k e s h here before = absurd (omega arith)
replaced path (x ∷ es) zero e s h here before = rw here refl
replaced path (x ∷ es) (suc k) e s h here before =
    rw (before 0 (omega arith)) (ap (λ r. entry_facts x ∷ r) (replaced path es k e s (omega arith) here (λ j lt. before (suc j) (omega arith))))

pub put_facts-some : (path : Path) (es : Entries) (k : ℕ) (e : Path × FieldStats) (s : FieldStats) → Some k ≡ position (λ x. equal_path path x.0) es → e ≡ get_or es k e →
    put_facts (map entry_facts es) path (stats_facts s) ≡ map entry_facts (set es k (e.0, s))
put_facts-some path es k e s h is =
    let p = position-Some (λ (x : Path × FieldStats). equal_path path x.0) es k e (sym h) in
    replaced path es k e s p.0 p.1 p.2 ∙ ap (λ (x : Path × FieldStats). map entry_facts (set es k (x.0, s))) (sym is)

-- ---- after it is put

pub facts_at-put : (fields : List (Path × FieldFacts)) (path : Path) (f : FieldFacts) → facts_at (put_facts fields path f) path ≡ f
facts_at-put [] path f = rw (equal_path_equiv.refl path) refl
facts_at-put (e ∷ fields) path f = go (equal_path path e.0) refl (facts_at-put fields path f)
  where
    go : (b : Bool) → equal_path path e.0 ≡ b → facts_at (put_facts fields path f) path ≡ f → facts_at (put_facts (e ∷ fields) path f) path ≡ f
    go true q rest = rw (q, q) refl
    go false q rest = rw (q, q) rest

-- ---- what the code puts

pub pushed : (rows : ℕ) (es more : Entries) (path : Path) (s : FieldStats) → None ≡ position (λ e. equal_path path e.0) es → more ≡ es ++ (path, s) ∷ [] →
    facts rows (map entry_facts more) ≡ facts rows (put_facts (map entry_facts es) path (stats_facts s))
pushed rows es more path s none e = ap (facts rows) (ap (map entry_facts) e ∙ map-append entry_facts es ((path, s) ∷ []) ∙ sym (put_facts-none path es (stats_facts s) none))

pub set_at : (rows : ℕ) (es : Entries) (k : ℕ) (path : Path) (e : Path × FieldStats) (s : FieldStats) → Some k ≡ position (λ x. equal_path path x.0) es → e ≡ get_or es k e →
    facts rows (map entry_facts (set es k (e.0, s))) ≡ facts rows (put_facts (map entry_facts es) path (stats_facts s))
set_at rows es k path e s at is = ap (facts rows) (sym (put_facts-some path es k e s at is))
