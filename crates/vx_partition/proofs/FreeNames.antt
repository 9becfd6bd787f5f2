-- Names that no earlier one takes.
use Rattle.std.proofs.Common.{◌≡◌, Bool, true, false, List, [], ◌∷◌, ◌++◌, Option, Some, None, Ok, refl, sym, ap, ◌∙◌, true≢false}
use Rattle.std.specs.Prelude.{if◌then◌else◌, ◌||◌, cond, not, IsFalse}
use Rattle.std.specs.Cmp.{IsEquivalence}
use Rattle.std.specs.HashSet.{HashSet, contains, Updates}
use Rattle.std.specs.List.{list_any}
use Rattle.std.specs.Str.{bytes_eq}
use Rattle.std.proofs.lemmas.Bool.{or_parts}
use Rattle.std.proofs.lemmas.List.Folds.{list_any-append}
use Rattle.vx_value.specs.Types.{Name}
use Rattle.vx_partition_laws.specs.Partitions.{Distinct, partition_names}
use Rattle.vx_partition_laws.specs.Pieces.{Piece, pieces, annotations_of, grouped}
use Rattle.vx_partition.specs.Keys.{same_bytes}
use Rattle.vx_partition.specs.Partitioned.{first_taken, unless_taken, NamesAreFree}
use Rattle.vx_partition.proofs.Growing.{Apart, annotations-apart}
use Rattle.vx_partition.proofs.Tables.{same_name, other_name}

-- a name isn't among those before it
apart_from : (before names : List Name) (b : Name) → list_any (bytes_eq b) before ≡ true → first_taken before names ≡ None → list_any (bytes_eq b) names ≡ false
apart_from before [] b i e = refl
apart_from before (a ∷ names) b i e = go (list_any (bytes_eq a) before) refl e (apart_from (before ++ a ∷ []) names b still)
  where
    differ : list_any (bytes_eq a) before ≡ false → bytes_eq b a ≡ false
    differ q = other_name b a (λ s. true≢false (sym (ap (λ n. list_any (bytes_eq n) before) (sym s) ∙ i) ∙ q))

    still : list_any (bytes_eq b) (before ++ a ∷ []) ≡ true
    still = list_any-append (bytes_eq b) before (a ∷ []) ∙ ap (λ t. t || list_any (bytes_eq b) (a ∷ [])) i

    go : (t : Bool) → list_any (bytes_eq a) before ≡ t → (if t then Some a else first_taken (before ++ a ∷ []) names) ≡ None → (first_taken (before ++ a ∷ []) names ≡ None → list_any (bytes_eq b) names ≡ false)
        → (bytes_eq b a || list_any (bytes_eq b) names) ≡ false
    go true q e r = cc
    go false q e r = rw (differ q, r e) refl

-- names that are free differ
pub free_differ : (before names : List Name) → first_taken before names ≡ None → Distinct names
free_differ before [] e = tt
free_differ before (a ∷ names) e = go (list_any (bytes_eq a) before) e (free_differ (before ++ a ∷ []) names)
  where
    last : (xs : List Name) → list_any (bytes_eq a) (xs ++ a ∷ []) ≡ true
    last xs = list_any-append (bytes_eq a) xs (a ∷ []) ∙ ap (λ t. list_any (bytes_eq a) xs || (t || false)) (same_name a) ∙ or_true (list_any (bytes_eq a) xs)
      where
        or_true : (t : Bool) → (t || true) ≡ true
        or_true true = refl
        or_true false = refl

    go : (t : Bool) → (if t then Some a else first_taken (before ++ a ∷ []) names) ≡ None → (first_taken (before ++ a ∷ []) names ≡ None → Distinct names) → IsFalse (list_any (bytes_eq a) names) × Distinct names
    go true e r = cc
    go false e r = (apart_from (before ++ a ∷ []) names a (last before) e, r e)

pub unless_none : (o : Option Name) (names given : List Name) → unless_taken o names ≡ Ok given → (o ≡ None) × (given ≡ names)
unless_none None names given e = (refl, let q : names ≡ given = cc in sym q)
unless_none (Some a) names given e = cc

-- ---- names beside a set that has them

-- the set has these names, and no other
abbrev pub HasNames : {S : Type 0} → HashSet Name S → List Name → Type 0
HasNames s names = (b : Name) → contains bytes_eq s b ≡ list_any (bytes_eq b) names

-- a name whose copy was new to the set is none of those
pub new_to_set : {S : Type 0} (s : HashSet Name S) (names : List Name) (a copy : Name) (added : Bool) → HasNames s names → copy ≡ a → added ≡ not (contains bytes_eq s copy) → added ≡ true
    → list_any (bytes_eq a) names ≡ false
new_to_set s names a copy added has same told new = go (list_any (bytes_eq a) names) (sym new ∙ told ∙ ap (λ n. not (contains bytes_eq s n)) same ∙ ap not (has a))
  where
    go : (t : Bool) → true ≡ not t → t ≡ false
    go true e = e
    go false e = refl

-- it doesn't decide what is left to look at
pub decides-next : (names new left rest : List Name) (a : Name) → list_any (bytes_eq a) names ≡ false → new ≡ names ++ a ∷ [] → left ≡ a ∷ rest → first_taken new rest ≡ first_taken names left
decides-next names new left rest a free is next = rw (is, next, free) refl

-- with the copy the set has it too
pub has_names-next : {S : Type 0} (s t : HashSet Name S) (names new : List Name) (a copy : Name) → HasNames s names → copy ≡ a → Updates bytes_eq s t copy true → new ≡ names ++ a ∷ [] → HasNames t new
has_names-next s t names new a copy has same put is b =
    put.0 b ∙ ap (λ n. cond (bytes_eq n b) true (contains bytes_eq s b)) same ∙ go (bytes_eq a b) refl ∙ sym (ap (list_any (bytes_eq b)) is ∙ list_any-append (bytes_eq b) names (a ∷ []))
  where
    or_true : (t : Bool) → true ≡ (t || true)
    or_true true = refl
    or_true false = refl

    or_false : (t : Bool) → t ≡ (t || false)
    or_false true = refl
    or_false false = refl

    go : (t : Bool) → bytes_eq a b ≡ t → cond t true (contains bytes_eq s b) ≡ (list_any (bytes_eq b) names || (bytes_eq b a || false))
    go true q = or_true (list_any (bytes_eq b) names) ∙ sym (ap (λ t. list_any (bytes_eq b) names || (t || false)) (ap (λ n. bytes_eq b n) (same_bytes a b q) ∙ same_name b))
    go false q = has b ∙ or_false (list_any (bytes_eq b) names)
        ∙ sym (ap (λ t. list_any (bytes_eq b) names || (t || false)) (other_name b a (λ e. true≢false (sym (same_name a) ∙ ap (bytes_eq a) (sym e) ∙ q))))

-- ---- names that are their own annotations

-- none of the names is among those before
abbrev Clear : List Name → List Name → Type 0
Clear before names = (b : Name) → list_any (bytes_eq b) before ≡ true → list_any (bytes_eq b) names ≡ false

apart_free : (before names : List Name) → Apart bytes_eq names → Clear before names → first_taken before names ≡ None
apart_free before [] h k = refl
apart_free before (a ∷ names) h k = go (list_any (bytes_eq a) before) refl (apart_free (before ++ a ∷ []) names h.1 still)
  where
    joined : (b : Name) (s t : Bool) → list_any (bytes_eq b) before ≡ s → bytes_eq b a ≡ t → (s || (t || false)) ≡ true → list_any (bytes_eq b) names ≡ false
    joined b true t p q e = (or_parts (bytes_eq b a) (list_any (bytes_eq b) names) (k b p)).1
    joined b false true p q e = ap (λ n. list_any (bytes_eq n) names) (same_bytes b a q) ∙ h.0
    joined b false false p q e = absurd (true≢false (sym e))

    still : Clear (before ++ a ∷ []) names
    still b e = joined b (list_any (bytes_eq b) before) (bytes_eq b a) refl refl (sym (list_any-append (bytes_eq b) before (a ∷ [])) ∙ e)

    go : (t : Bool) → list_any (bytes_eq a) before ≡ t → first_taken (before ++ a ∷ []) names ≡ None → (if t then Some a else first_taken (before ++ a ∷ []) names) ≡ None
    go true q r = absurd (true≢false (sym (same_name a) ∙ (or_parts (bytes_eq a a) (list_any (bytes_eq a) names) (k a q)).0))
    go false q r = r

own_names : (xs : List (Piece Name)) (cs : List Name) → partition_names (λ a. a) (grouped bytes_eq xs cs) ≡ cs
own_names xs [] = refl
own_names xs (c ∷ cs) = ap (λ l. c ∷ l) (own_names xs cs)

pub names_are_free : IsEquivalence bytes_eq → NamesAreFree
names_are_free laws only b =
    let cs = annotations_of bytes_eq (pieces only b) in
    let free = apart_free [] cs (annotations-apart bytes_eq laws (pieces only b)) (λ n e. absurd (true≢false (sym e))) in
    rw (own_names (pieces only b) cs, free) refl
