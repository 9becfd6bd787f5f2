-- What a text is read as over a scope, and why it isn't.
use Rattle.std.proofs.Common.{◌≡◌, ◌⊎◌, inl, inr, ℕ, List, Result, Ok, Err, refl, sym, ap, subst, ◌∙◌, true, false}
use Rattle.std.specs.Prelude.{IfErr, IfOk, IsOk, IsErr, MatchResult}
use Rattle.std.specs.Result.{is_ok}
use Rattle.vx_value.specs.Types.{LogicalType}
use Rattle.vx_fn.specs.Functions.{Typing}
use Rattle.vx_tree.specs.Trees.{Tree, typed}
use Rattle.vx_source_types.proofs.Reading.{read_once}
use Rattle.vx_source_grammar.specs.ExpressionReading.{expression_step, step_by}
use Rattle.vx_source_grammar.specs.States.{open_as}
use Rattle.vx_source_parser.specs.Placed.{AreReadings}
use Rattle.vx_source_parser.specs.declared.whole.Placed.{Placed}
use Rattle.vx_source_over.specs.declared.error.OverError.{OverError}
use Rattle.vx_source_over.specs.declared.error.OverError.TheVariants.{OutOfMemory, Unexpected, Misfit}
use Rattle.vx_source_over.specs.Laws.{TypedTextsStay, ReadingOverIsUnique}
use Rattle.vx_source_over.specs.Reading.{ReadsAlone, ReadsOver, as_alone, as_settled, HasNoTypeAlone, HasNoReadings, RefusesReadings, RefusesOver, ReadsOrRefuses, Refuses, Settles, GivesOver, IsUnread}
use Rattle.vx_source_over.specs.Settling.{Refusal, misfit, unexpected, read_over}
use Rattle.vx_source_over.specs.Views.{over_error}
use Rattle.vx_source_types.specs.declared.error.ParseError.{ParseError}
use Rattle.vx_source_types.specs.declared.error.ParseError.TheVariants.{OutOfMemory as NoMemory, Unexpected as Stopped}
use Rattle.vx_source_types.specs.declared.expectation.Expected.{Expected}

-- a type is there, or a refusal
not_both : (r : Typing) → IsOk r → IsErr r → ⊥
not_both (Ok t) h k = cc
not_both (Err e) h k = cc

untyped : (r : Typing) → is_ok r ≡ false → IsErr r
untyped (Ok t) h = cc
untyped (Err e) h = refl

abbrev ok_tree : Tree → Result Tree Refusal
ok_tree t = Ok t

the_tree : (t u : Tree) → ok_tree t ≡ Ok u → t ≡ u
the_tree t u h = cc

ok_or_not : (t : Tree) (r : Refusal) → ok_tree t ≡ Err r → ⊥
ok_or_not t r h = cc

not_memory : (at : ℕ) (x : Expected) → Stopped at x ≡ NoMemory → ⊥
not_memory at x h = cc

module _ (limit : ℕ) (text : List ℕ) (s : LogicalType) where
  same_readings : {e d a b : Tree} → AreReadings limit text e d → AreReadings limit text a b → read_over s e d ≡ read_over s a b
  same_readings {d = d} {a = a} h k =
      let p = read_once (step_by (open_as false)) h.0 k.0 in
      let q = read_once (step_by (open_as true)) h.1 k.1 in
      ap (λ x. read_over s x d) p ∙ ap (λ x. read_over s a x) q

  pub stays : (e t : Tree) → ReadsAlone limit text e → IsOk (typed e s) → ReadsOver limit text s t → t ≡ e
  stays e t h ok (as_alone k typed_so) = read_once expression_step k h
  stays e t h ok (as_settled none k q) = absurd (not_both (typed e s) ok (none e h))

  pub unique : (t u : Tree) → ReadsOver limit text s t → ReadsOver limit text s u → t ≡ u
  unique t u (as_alone h ok) k = sym (stays t u h ok k)
  unique t u (as_settled none h q) (as_alone {e = e} k ok) = absurd (not_both (typed e s) ok (none e k))
  unique t u (as_settled none h q) (as_settled other k p) = the_tree t u (sym q ∙ same_readings h k ∙ p)

  -- what is refused isn't read, unless memory ran out
  refuses_none : (t : Tree) (error : OverError) → HasNoTypeAlone limit text s → HasNoReadings limit text ⊎ RefusesReadings limit text s error → ((said : Result Tree Refusal) → Refuses error said → (r : Refusal) × (said ≡ Err r)) → ReadsOver limit text s t → ⊥
  refuses_none t error none why refusal (as_alone {e = e} h ok) = not_both (typed e s) ok (none e h)
  refuses_none t error none (inl bare) refusal (as_settled {e = e} {d = d} other h q) = bare e d h
  refuses_none t error none (inr there) refusal (as_settled other h q) =
      let r = refusal _ there.3 in
      ok_or_not t r.0 (sym q ∙ same_readings h there.2 ∙ r.1)

  pub excluded : (t : Tree) (error : OverError) → RefusesOver limit text s error → ReadsOver limit text s t → error ≡ OutOfMemory
  excluded t OutOfMemory h k = refl
  excluded t (Unexpected at x) h k = absurd (refuses_none t (Unexpected at x) h.0 h.1 (λ said q. (unexpected x, q)) k)
  excluded t (Misfit start end v u) h k = absurd (refuses_none t (Misfit start end v u) h.0 (inr h.1) (λ said q. (misfit _ _, q)) k)

  pub completes : {A : Type 0} (view : A → Tree) (result : Result A OverError) (t : Tree) → MatchResult result (λ x. ReadsOver limit text s (view x)) (λ e. RefusesOver limit text s e) → ReadsOver limit text s t → GivesOver view result t
  completes view (Ok x) t h k = unique (view x) t h k
  completes view (Err e) t h k = excluded t e h k

  -- ---- what was read, and its type

  -- what is read alone has a type, or nothing that is read alone has one
  pub typed_alone : (e : Tree) → ReadsAlone limit text e → is_ok (typed e s) ≡ true → ReadsOver limit text s e
  typed_alone e h ok = as_alone h ok

  pub untyped_alone : (e : Tree) → ReadsAlone limit text e → is_ok (typed e s) ≡ false → HasNoTypeAlone limit text s
  untyped_alone e h bare = λ a k. subst (λ x. IsErr (typed x s)) (read_once expression_step h k) (untyped (typed e s) bare)

  -- a text without two readings
  pub unreadable : (error : ParseError) → ((e d : Tree) → AreReadings limit text e d → error ≡ NoMemory) → HasNoTypeAlone limit text s → RefusesOver limit text s (over_error error)
  unreadable NoMemory k none = tt
  unreadable (Stopped at x) k none = (none, inl (λ e d r. not_memory at x (k e d r)))

  -- what the two readings are settled as
  pub settles : {e d : Tree} {A : Type 0} (view : A → Tree) (result : Result A OverError) → HasNoTypeAlone limit text s → AreReadings limit text e d → Settles view result (read_over s e d)
      → MatchResult result (λ x. ReadsOver limit text s (view x)) (λ e. RefusesOver limit text s e)
  settles view (Ok x) none h q = as_settled none h q
  settles view (Err OutOfMemory) none h q = tt
  settles {e = e} {d = d} view (Err (Unexpected at x)) none h q = (none, inr (e, d, h, q))
  settles {e = e} {d = d} view (Err (Misfit start end v t)) none h q = (none, (e, d, h, q))

pub typed_texts_stay : TypedTextsStay
typed_texts_stay limit text s e t h ok k = stays limit text s e t h ok k

pub reading_over_is_unique : ReadingOverIsUnique
reading_over_is_unique limit text s t u h k = unique limit text s t u h k

-- ---- what was read of a text

-- where reading alone stops, nothing is read alone
pub not_alone : (limit : ℕ) (text : List ℕ) (at : ℕ) (x : Expected) → ((e : Tree) → ReadsAlone limit text e → Stopped at x ≡ NoMemory) → (e : Tree) → ReadsAlone limit text e → ⊥
not_alone limit text at x k e h = not_memory at x (k e h)

-- where the two readings stop, too, nothing is read
pub none_read : (limit : ℕ) (text : List ℕ) (error : ParseError) → ((e : Tree) → ReadsAlone limit text e → ⊥) → ((e d : Tree) → AreReadings limit text e d → error ≡ NoMemory) → (error ≡ NoMemory) ⊎ IsUnread limit text
none_read limit text NoMemory none k = inl refl
none_read limit text (Stopped at x) none k = inr (none, λ e d r. not_memory at x (k e d r))

-- the text that was kept is the text
pub same_text : (limit depth : ℕ) (text kept : List ℕ) (s : LogicalType) (e : Tree) (result : Result Placed OverError) → ReadsAlone limit text e → kept ≡ text → depth ≡ limit → is_ok (typed e s) ≡ false
    → (HasNoTypeAlone depth kept s → ReadsOrRefuses depth kept s result) → ReadsOrRefuses limit text s result
same_text limit depth text kept s e result h is deep bare gives =
    let none = subst (λ n. HasNoTypeAlone n kept s) (sym deep) (subst (λ t. HasNoTypeAlone limit t s) (sym is) (untyped_alone limit text s e h bare)) in
    subst (λ t. ReadsOrRefuses limit t s result) is (subst (λ n. ReadsOrRefuses n kept s result) deep (gives none))

pub unread_refused : (limit : ℕ) (text : List ℕ) (s : LogicalType) (error : ParseError) → (error ≡ NoMemory) ⊎ IsUnread limit text → RefusesOver limit text s (over_error error)
unread_refused limit text s NoMemory why = tt
unread_refused limit text s (Stopped at x) (inl m) = cc
unread_refused limit text s (Stopped at x) (inr u) = (λ e k. absurd (u.0 e k), inl u.1)

pub memory_refused : (limit : ℕ) (text : List ℕ) (s : LogicalType) (error : OverError) → error ≡ OutOfMemory → RefusesOver limit text s error
memory_refused limit text s OutOfMemory h = tt
memory_refused limit text s (Unexpected at x) h = cc
memory_refused limit text s (Misfit start end v t) h = cc

-- the clauses of a call that reads or refuses
pub if_reads : {A : Type 0} (P : A → Type 0) (Q : OverError → Type 0) (result : Result A OverError) → MatchResult result P Q → IfOk result P
if_reads P Q (Ok x) h = h
if_reads P Q (Err e) h = tt

pub if_refuses : {A : Type 0} (P : A → Type 0) (Q : OverError → Type 0) (result : Result A OverError) → MatchResult result P Q → IfErr result Q
if_refuses P Q (Ok x) h = tt
if_refuses P Q (Err e) h = h

pub reads_or_refuses : {A : Type 0} (P : A → Type 0) (Q : OverError → Type 0) (result : Result A OverError) → IfOk result P → IfErr result Q → MatchResult result P Q
reads_or_refuses P Q (Ok x) h k = h
reads_or_refuses P Q (Err e) h k = k
