-- What records say of one place after another is consistent.
use Rattle.std.proofs.Common.{◌≡◌, ◌⊎◌, inl, inr, ℕ, List, [], ◌∷◌, Option, Some, None, Result, Ok, Err, refl, sym, ap, ◌∙◌, subst}
use Rattle.std.specs.Prelude.{IfOk}
use Rattle.vx_value.specs.Views.{value_of, data_view}
use Rattle.vx_value.specs.declared.value.Value.{Value}
use Rattle.vx_value.specs.Types.{Datum, null, bool, int, float, utf8, bytes, list_of, struct_of, Data, no_datum, datum}
use Rattle.vx_prune_tree.proofs.Consistency.{consistent, consistent-put}
use Rattle.vx_prune_tree.specs.Consistent.{IsConsistent, inconsistency_of}
use Rattle.vx_prune_tree.specs.Stats.{FieldFacts, Facts, facts, put_facts}
use Rattle.vx_prune_tree.specs.declared.field_stats.Inconsistency.{Inconsistency}
use Rattle.vx_prune_tree.specs.declared.field_stats.Inconsistency.TheVariants.{MoreNullsThanRows, LeastAboveGreatest}
use Rattle.vx_prune.specs.Views.{place_of, places_of}
use Rattle.vx_prune.specs.declared.places.Place.{Place as PlaceOf}
use Rattle.vx_prune.specs.Records.{GivesOrOom, Place, StatsError, and_then, field_said, unless_inconsistent, with_place, with_places}

-- ---- what is read is consistent

put-consistent : (known : Facts) (p : Place) (f : FieldFacts) → IsConsistent known → (o : Option Inconsistency) → inconsistency_of known.rows f ≡ o →
    IfOk (unless_inconsistent o p (facts known.rows (put_facts known.fields p.1 f))) IsConsistent
put-consistent known p f h None e = consistent-put known.rows known.fields p.1 f (consistent known.rows f e) h
put-consistent known p f h (Some MoreNullsThanRows) e = tt
put-consistent known p f h (Some LeastAboveGreatest) e = tt

place-consistent : (known : Facts) (p : Place) (v : Datum) → IsConsistent known → IfOk (with_place known p v) IsConsistent
place-consistent known p (struct_of vs) h = put-consistent known p (field_said vs) h (inconsistency_of known.rows (field_said vs)) refl
place-consistent known p null h = h
place-consistent known p (bool b) h = h
place-consistent known p (int i) h = h
place-consistent known p (float x) h = h
place-consistent known p (utf8 t) h = h
place-consistent known p (bytes t) h = h
place-consistent known p (list_of vs) h = h

then-consistent : (r : Result Facts StatsError) (f : Facts → Result Facts StatsError) → IfOk r IsConsistent → ((known : Facts) → IsConsistent known → IfOk (f known) IsConsistent) → IfOk (and_then r f) IsConsistent
then-consistent (Ok known) f h k = k known h
then-consistent (Err e) f h k = tt

places-consistent : (known : Facts) (ps : List Place) (vs : Data) → IsConsistent known → IfOk (with_places known ps vs) IsConsistent
places-consistent known [] vs h = h
places-consistent known (p ∷ ps) no_datum h = h
places-consistent known (p ∷ ps) (datum v vs) h = then-consistent (with_place known p v) _ (place-consistent known p v h) (λ more k. places-consistent more ps vs k)

pub given-consistent : (n : ℕ) (ps : List Place) (vs : Data) (r : Result Facts StatsError) → GivesOrOom (λ k. k) r (with_places (facts n []) ps vs) → IfOk r IsConsistent
given-consistent n ps vs (Ok k) h = subst (λ x. IfOk x IsConsistent) h (places-consistent (facts n []) ps vs tt)
given-consistent n ps vs (Err e) h = tt

-- ---- one place after another

pub one_more : (known more : Facts) (ps qs : List PlaceOf) (p : PlaceOf) (vs ws : List Value) (v : Value) (r : Result Facts StatsError) → ps ≡ p ∷ qs → vs ≡ v ∷ ws →
    with_places known (places_of ps) (data_view vs) ≡ r → with_place known (place_of p) (value_of v) ≡ Ok more → with_places more (places_of qs) (data_view ws) ≡ r
one_more known more ps qs p vs ws v r a b e h =
    sym (ap (λ x. and_then x (λ k. with_places k (places_of qs) (data_view ws))) h)
    ∙ sym (ap (λ us. with_places known (places_of (p ∷ qs)) (data_view us)) b) ∙ sym (ap (λ os. with_places known (places_of os) (data_view vs)) a) ∙ e

pub refused : (known : Facts) (ps qs : List PlaceOf) (p : PlaceOf) (vs ws : List Value) (v : Value) (r : Result Facts StatsError) (x : StatsError) → ps ≡ p ∷ qs → vs ≡ v ∷ ws →
    with_places known (places_of ps) (data_view vs) ≡ r → with_place known (place_of p) (value_of v) ≡ Err x → r ≡ Err x
refused known ps qs p vs ws v r x a b e h =
    sym e ∙ ap (λ os. with_places known (places_of os) (data_view vs)) a ∙ ap (λ us. with_places known (places_of (p ∷ qs)) (data_view us)) b
    ∙ ap (λ y. and_then y (λ k. with_places k (places_of qs) (data_view ws))) h

pub all_read : (known : Facts) (ps : List PlaceOf) (vs : List Value) (r : Result Facts StatsError) → (ps ≡ []) ⊎ (vs ≡ []) → with_places known (places_of ps) (data_view vs) ≡ r → r ≡ Ok known
all_read known [] vs r h e = sym e
all_read known (p ∷ ps) [] r h e = sym e
all_read known (p ∷ ps) (v ∷ vs) r (inl a) e = cc
all_read known (p ∷ ps) (v ∷ vs) r (inr a) e = cc
