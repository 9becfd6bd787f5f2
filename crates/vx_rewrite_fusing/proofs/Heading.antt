-- The first places of items, by the items' numbers.
use Rattle.std.proofs.Common.{◌≡◌, ◌⊎◌, inl, inr, List, [], ◌∷◌, ◌++◌, length, refl, sym, subst, ap, ◌∙◌, Bool, true, false, cond, ℕ, zero, suc, ◌+◌, ◌<◌, arith, length-append, length-set, set}
use Rattle.std.specs.Prelude.{Option, Some, None, Result, Ok, Err, OnOk, slice_get}
use Rattle.std.specs.Slice.{IsItemAt}
use Rattle.std.proofs.Common.{get_or}
use Rattle.std.proofs.lemmas.Bool.{ltb-false, ltb-true}
use Rattle.std.proofs.lemmas.Option.{slice_get_past, slice_get_read, slice_get_within}
use denote.Ref.{Bor}
use Rattle.vx_tree.specs.Equality.{equal_bound, equal_bound-Decides}
use Rattle.vx_tree.specs.Views.{bound_of}
use Rattle.vx_tree.specs.declared.bound.BoundExpression.{BoundExpression}
use Rattle.vx_rewrite_fusing.specs.declared.heads.Firsts.{Firsts}
use Rattle.vx_rewrite_fusing.specs.declared.heads.Heads.{Heads}
use Rattle.vx_rewrite_fusing.specs.declared.ranges.Side.{Side}
use Rattle.vx_rewrite_fusing.specs.declared.ranges.Side.TheVariants.{Below, Above}
use Rattle.vx_rewrite_fusing.specs.Places.{first_at, first_by, first_of, head_of, number_at, place_at, IsNumbered, KeepsNumbers, SetsFirst, SetsHead}
use Rattle.vx_rewrite_fusing.proofs.Reading.{read_apart, read_behind, read_front, read_here, read_past, read_set}

-- ---- another place is kept

-- the place of a number that is an item's
pub sets_head : (h g : Heads) (s : Side) (x : Bor BoundExpression) (n : ℕ) (o : Option ℕ) → IsNumbered h → number_at h x ≡ Some n → g.numbers ≡ h.numbers → SetsFirst h.firsts.items g.firsts.items s n o → SetsHead h g s x o
sets_head h g s x n o numbered mine same sets t y = (here, elsewhere (number_at h y) refl)
  where
    there : number_at g y ≡ number_at h y
    there = ap (λ m. place_at m (bound_of y.now)) same

    here : (t ≡ s) × (bound_of y.now ≡ bound_of x.now) → head_of g t y ≡ o
    here p = ap (first_by g.firsts.items t) (there ∙ (ap (place_at h.numbers) p.1 ∙ mine)) ∙ (sets.1 t n).0 (p.0, refl) (numbered.inside x n mine)

    elsewhere : (m : Option ℕ) → number_at h y ≡ m → ((t ≡ s) × (bound_of y.now ≡ bound_of x.now) → ⊥) → head_of g t y ≡ head_of h t y
    elsewhere None e apart = ap (first_by g.firsts.items t) (there ∙ e) ∙ sym (ap (first_by h.firsts.items t) e)
    elsewhere (Some m) e apart =
        ap (first_by g.firsts.items t) (there ∙ e)
        ∙ ((sets.1 t m).1 (λ p. apart (p.0, numbered.apart y x n (e ∙ ap Some p.1) mine))
        ∙ sym (ap (first_by h.firsts.items t) e))

pub sets_numbered : (h g : Heads) (s : Side) (n : ℕ) (o : Option ℕ) → IsNumbered h → g.numbers ≡ h.numbers → SetsFirst h.firsts.items g.firsts.items s n o → IsNumbered g
sets_numbered h g s n o numbered same sets = record {
  inside = λ x m e. subst (λ l. m < l) (sym sets.0) (numbered.inside x m (sym (ap (λ z. place_at z (bound_of x.now)) same) ∙ e));
  apart = λ x y m e f. numbered.apart x y m (sym (ap (λ z. place_at z (bound_of x.now)) same) ∙ e) (sym (ap (λ z. place_at z (bound_of y.now)) same) ∙ f);
}

-- ---- the firsts of a number

pub first_missing : (fs gs : List Firsts) (s : Side) (n : ℕ) → gs ≡ fs → IsItemAt gs n None → first_at fs s n ≡ None
first_missing fs gs s n e h = read_past (λ f. first_of f s) fs n (ap (λ z. slice_get z n) (sym e) ∙ slice_get_past gs n (ltb-false n (length gs) (sym h.0)))

pub first_found : (fs gs : List Firsts) (s : Side) (n : ℕ) (x : Bor Firsts) → gs ≡ fs → IsItemAt gs n (Some x) → first_at fs s n ≡ first_of x.now s
first_found fs gs s n x e h = read_here (λ f. first_of f s) fs n x.now (ap (λ z. slice_get z n) (sym e) ∙ slice_get_read gs (length gs) n x.now refl (ltb-true n (length gs) (sym h.0)) h.1)

same_number : (m n : ℕ) → (m ≡ n) ⊎ (m ≡ n → ⊥)
same_number zero zero = inl refl
same_number zero (suc n) = inr (λ q. omega (arith, q))
same_number (suc m) zero = inr (λ q. omega (arith, q))
same_number (suc m) (suc n) = go (same_number m n)
  where
    go : (m ≡ n) ⊎ (m ≡ n → ⊥) → (suc m ≡ suc n) ⊎ (suc m ≡ suc n → ⊥)
    go (inl e) = inl (ap suc e)
    go (inr f) = inr (λ q. f (omega (arith, q)))

pub sets_at : (fs : List Firsts) (s : Side) (n : ℕ) (o : Option ℕ) (f g : Firsts) → slice_get fs n ≡ Some f → first_of g s ≡ o → ((t : Side) → (t ≡ s → ⊥) → first_of g t ≡ first_of f t) → SetsFirst fs (set fs n g) s n o
sets_at fs s n o f g e is other = (length-set fs n g, λ t m. (λ p l. at_it t m p.1 ∙ (ap (first_of g) p.0 ∙ is), elsewhere t m))
  where
    at_it : (t : Side) (m : ℕ) → m ≡ n → first_at (set fs n g) t m ≡ first_of g t
    at_it t m q = ap (first_at (set fs n g) t) q ∙ read_set (λ f. first_of f t) fs n g (slice_get_within fs n f e)

    elsewhere : (t : Side) (m : ℕ) → ((t ≡ s) × (m ≡ n) → ⊥) → first_at (set fs n g) t m ≡ first_at fs t m
    elsewhere t m apart = go (same_number m n)
      where
        go : (m ≡ n) ⊎ (m ≡ n → ⊥) → first_at (set fs n g) t m ≡ first_at fs t m
        go (inl q) = at_it t m q ∙ (other t (λ p. apart (p, q)) ∙ (sym (read_here (λ f. first_of f t) fs n f e) ∙ ap (first_at fs t) (sym q)))
        go (inr q) = read_apart (λ f. first_of f t) fs n m g q

-- where one side is set the other stays
pub above_stays : (old new : Firsts) → new.above ≡ old.above → (t : Side) → (t ≡ Below → ⊥) → first_of new t ≡ first_of old t
above_stays old new e Below n = absurd (n refl)
above_stays old new e Above n = e

pub below_stays : (old new : Firsts) → new.below ≡ old.below → (t : Side) → (t ≡ Above → ⊥) → first_of new t ≡ first_of old t
below_stays old new e Below n = e
below_stays old new e Above n = absurd (n refl)

-- ---- a new number

none_first : (f : Firsts) (s : Side) → f.below ≡ None → f.above ≡ None → first_of f s ≡ None
none_first f Below e g = e
none_first f Above e g = g

module _ (old new : Heads) (x : Bor BoundExpression) (f : Firsts) (numbered : IsNumbered old) (fresh : number_at old x ≡ None) (more : new.firsts.items ≡ old.firsts.items ++ f ∷ []) (below : f.below ≡ None) (above : f.above ≡ None)
    (noted : (y : Bor BoundExpression) → place_at new.numbers (bound_of y.now) ≡ cond (equal_bound (bound_of x.now) (bound_of y.now)) (Some (length old.firsts.items)) (place_at old.numbers (bound_of y.now))) where
  abbrev pub size : ℕ
  size = length old.firsts.items

  -- an item is the new one, or has the number that it had
  data IsKnown (y : Bor BoundExpression) : Type 0 where
    is_new : bound_of y.now ≡ bound_of x.now → number_at new y ≡ Some size → IsKnown y
    is_old : (bound_of y.now ≡ bound_of x.now → ⊥) → number_at new y ≡ number_at old y → IsKnown y

  known : (y : Bor BoundExpression) → IsKnown y
  known y = go (equal_bound (bound_of x.now) (bound_of y.now)) refl
    where
      go : (r : Bool) → equal_bound (bound_of x.now) (bound_of y.now) ≡ r → IsKnown y
      go true e = is_new (sym ((equal_bound-Decides (bound_of x.now) (bound_of y.now)).0 e)) (noted y ∙ ap (λ r. cond r (Some size) (place_at old.numbers (bound_of y.now))) e)
      go false e = is_old (λ same. let g : equal_bound (bound_of x.now) (bound_of y.now) ≡ true = (equal_bound-Decides (bound_of x.now) (bound_of y.now)).1 (sym same) in cc) (noted y ∙ ap (λ r. cond r (Some size) (place_at old.numbers (bound_of y.now))) e)

  longer : length new.firsts.items ≡ size + 1
  longer = ap length more ∙ length-append old.firsts.items (f ∷ [])

  pub new_number : number_at new x ≡ Some size
  new_number = go (known x)
    where
      go : IsKnown x → number_at new x ≡ Some size
      go (is_new same e) = e
      go (is_old apart e) = absurd (apart refl)

  pub new_numbered : IsNumbered new
  new_numbered = record { inside = λ y n e. inside y n e (known y); apart = λ y z n e g. apart y z n e g (known y) (known z) }
    where
      inside : (y : Bor BoundExpression) (n : ℕ) → number_at new y ≡ Some n → IsKnown y → n < length new.firsts.items
      inside y n e (is_new same g) = let q : size ≡ n = cc in omega (arith, longer, q)
      inside y n e (is_old other g) = let less = numbered.inside y n (sym g ∙ e) in omega (arith, longer, less)

      apart : (y z : Bor BoundExpression) (n : ℕ) → number_at new y ≡ Some n → number_at new z ≡ Some n → IsKnown y → IsKnown z → bound_of y.now ≡ bound_of z.now
      apart y z n e g (is_new p h) (is_new q i) = p ∙ sym q
      apart y z n e g (is_new p h) (is_old q i) = let same : size ≡ n = cc in let less : n < size = numbered.inside z n (sym i ∙ g) in absurd (omega (arith, same, less))
      apart y z n e g (is_old p h) (is_new q i) = let same : size ≡ n = cc in let less : n < size = numbered.inside y n (sym h ∙ e) in absurd (omega (arith, same, less))
      apart y z n e g (is_old p h) (is_old q i) = numbered.apart y z n (sym h ∙ e) (sym i ∙ g)

  pub new_keeps : KeepsNumbers old new
  new_keeps = (λ s y. heads s y (known y), λ y n e. numbers y n e (known y))
    where
      by : (s : Side) (m : Option ℕ) (y : Bor BoundExpression) → number_at old y ≡ m → first_by new.firsts.items s m ≡ first_by old.firsts.items s m
      by s None y e = refl
      by s (Some m) y e = ap (λ z. first_at z s m) more ∙ read_front (λ f. first_of f s) old.firsts.items (f ∷ []) m (numbered.inside y m e)

      heads : (s : Side) (y : Bor BoundExpression) → IsKnown y → head_of new s y ≡ head_of old s y
      heads s y (is_new same e) =
          ap (first_by new.firsts.items s) e ∙ (ap (λ z. first_at z s size) more ∙ (read_behind (λ f. first_of f s) old.firsts.items f [] ∙ (none_first f s below above
          ∙ sym (ap (first_by old.firsts.items s) (ap (place_at old.numbers) same ∙ fresh)))))
      heads s y (is_old apart e) = ap (first_by new.firsts.items s) e ∙ by s (number_at old y) y refl

      numbers : (y : Bor BoundExpression) (n : ℕ) → number_at old y ≡ Some n → IsKnown y → number_at new y ≡ Some n
      numbers y n e (is_new same g) = let none : number_at old y ≡ None = ap (place_at old.numbers) same ∙ fresh in cc
      numbers y n e (is_old apart g) = g ∙ e

-- ---- what follows from what an answer promises

pub on_ok : {A E P Q : Type 0} (r : Result A E) → (P → Q) → OnOk r P → OnOk r Q
on_ok (Ok a) f p = f p
on_ok (Err e) f p = p
