-- What is read along one path after another.
use Rattle.std.proofs.Common.{◌≡◌, ◌⊎◌, ℕ, List, [], ◌∷◌, ◌++◌, length, map, Option, Some, None, Ok, Err, refl, sym, ap, ◌∙◌, subst, inl, inr}
use Rattle.std.specs.Option.{option_or}
use Rattle.std.proofs.lemmas.List.{map-append, append_assoc, append-nil}
use Rattle.vx_dtype.specs.declared.error.VortexError.{VortexError}
use Rattle.vx_dtype.specs.declared.error.VortexError.TheVariants.{OutOfMemory}
use Rattle.vx_value.specs.Paths.{Path}
use Rattle.vx_value.specs.Types.{LogicalType, Datum}
use Rattle.vx_prune_tree.specs.declared.field_stats.FieldStats.{FieldStats}
use Rattle.vx_projection.specs.Lost.{lost, first_lost, unless_lost}
use Rattle.vx_prune_tree.specs.Reading.{entry_along, facts_along}
use Rattle.vx_prune_tree.specs.Stats.{FieldFacts, Facts, facts, Describes}
use Rattle.vx_prune_tree.specs.Views.{entry_facts}
use Rattle.vx_prune_tree.proofs.Truth.{read_is_true}

-- these entries are of the paths up to the rest, none of which leads nowhere
pub record Along (t : LogicalType) (rows : List Datum) (all rest : List Path) (done : List (Path × FieldStats)) : Type 0 where
  pub refusal : first_lost rest t ≡ first_lost all t
  pub entries : map entry_facts done ++ map (entry_along t rows) rest ≡ map (entry_along t rows) all

pub along-none : (t : LogicalType) (rows : List Datum) (all rest : List Path) (done : List (Path × FieldStats)) → rest ≡ all → done ≡ [] → Along t rows all rest done
along-none t rows all rest done first none = record {
  refusal = ap (λ (ps : List Path). first_lost ps t) first;
  entries = ap (λ (es : List (Path × FieldStats)). map entry_facts es ++ map (entry_along t rows) rest) none ∙ ap (map (entry_along t rows)) first;
}

not_lost : {A : Type 0} (o : Option VortexError) (x y : A) → unless_lost o x ≡ Ok y → (o ≡ None) × (x ≡ y)
not_lost None x y e = (refl, cc)
not_lost (Some r) x y e = cc

was_lost : {A : Type 0} (o : Option VortexError) (x : A) (e : VortexError) → unless_lost o x ≡ Err e → o ≡ Some e
was_lost None x e h = cc
was_lost (Some r) x e h = cc

-- one more path
pub along-more : (t : LogicalType) (rows : List Datum) (all rest left : List Path) (p : Path) (done more : List (Path × FieldStats)) (entry : Path × FieldStats) → Along t rows all rest done → rest ≡ p ∷ left →
    unless_lost (lost p t) (entry_along t rows p) ≡ Ok (entry_facts entry) → more ≡ done ++ entry ∷ [] → Along t rows all left more
along-more t rows all rest left p done more entry h first read pushed =
    let found = not_lost (lost p t) (entry_along t rows p) (entry_facts entry) read in
    record {
      refusal =
          sym (ap (λ (o : Option VortexError). option_or o (first_lost left t)) found.0)
          ∙ sym (ap (λ (ps : List Path). first_lost ps t) first)
          ∙ h.refusal;
      entries =
          ap (λ (es : List (Path × FieldStats)). map entry_facts es ++ map (entry_along t rows) left) pushed
          ∙ ap (λ (es : List (Path × FieldFacts)). es ++ map (entry_along t rows) left) (map-append entry_facts done (entry ∷ []))
          ∙ append_assoc (map entry_facts done) (entry_facts entry ∷ []) (map (entry_along t rows) left)
          ∙ ap (λ (e : Path × FieldFacts). map entry_facts done ++ e ∷ map (entry_along t rows) left) (sym found.1)
          ∙ ap (λ (ps : List Path). map entry_facts done ++ map (entry_along t rows) ps) (sym first)
          ∙ h.entries;
    }

-- the first path that leads nowhere
pub along-refused : {A B : Type 0} (t : LogicalType) (rows : List Datum) (all rest left : List Path) (p : Path) (done : List (Path × FieldStats)) (x : A) (y : B) (e : VortexError) → Along t rows all rest done → rest ≡ p ∷ left →
    (e ≡ OutOfMemory) ⊎ (unless_lost (lost p t) x ≡ Err e) → (e ≡ OutOfMemory) ⊎ (unless_lost (first_lost all t) y ≡ Err e)
along-refused t rows all rest left p done x y e h first (inl memory) = inl memory
along-refused t rows all rest left p done x y e h first (inr refused) =
    let here = was_lost (lost p t) x e refused in
    let all_lost : first_lost all t ≡ Some e =
    sym h.refusal ∙ ap (λ (ps : List Path). first_lost ps t) first ∙ ap (λ (o : Option VortexError). option_or o (first_lost left t)) here in
    inr (ap (λ (o : Option VortexError). unless_lost o y) all_lost)

-- all of them
pub along-all : (t : LogicalType) (rows : List Datum) (all rest : List Path) (done : List (Path × FieldStats)) (n : ℕ) → Along t rows all rest done → rest ≡ [] → n ≡ length rows →
    facts_along t all rows ≡ facts n (map entry_facts done)
along-all t rows all rest done n h none long =
    let entries : map entry_facts done ≡ map (entry_along t rows) all =
    sym (append-nil (map entry_facts done)) ∙ ap (λ (ps : List Path). map entry_facts done ++ map (entry_along t rows) ps) (sym none) ∙ h.entries in
    ap (λ (k : ℕ). facts k (map (entry_along t rows) all)) (sym long) ∙ ap (facts n) (sym entries)

pub along-read : (t : LogicalType) (rows : List Datum) (all rest : List Path) (done : List (Path × FieldStats)) (n : ℕ) → Along t rows all rest done → rest ≡ [] → n ≡ length rows →
    unless_lost (first_lost all t) (facts_along t all rows) ≡ Ok (facts n (map entry_facts done))
along-read t rows all rest done n h none long =
    let leads : first_lost all t ≡ None = sym h.refusal ∙ ap (λ (ps : List Path). first_lost ps t) none in
    ap (λ (o : Option VortexError). unless_lost o (facts_along t all rows)) leads ∙ ap Ok (along-all t rows all rest done n h none long)

pub along-true : (t : LogicalType) (rows : List Datum) (all rest : List Path) (done : List (Path × FieldStats)) (n : ℕ) → Along t rows all rest done → rest ≡ [] → n ≡ length rows →
    Describes (facts n (map entry_facts done)) t rows
along-true t rows all rest done n h none long = subst (λ (f : Facts). Describes f t rows) (along-all t rows all rest done n h none long) (read_is_true t all rows)
