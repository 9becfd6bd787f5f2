-- Verdicts are so of the rows that what is known of a chunk is true of.
use Rattle.std.proofs.Common.{◌≡◌, ℕ, ◌==◌, List, [], ◌∷◌, length, refl, sym, ap, subst, ◌∙◌, Bool, true, false, arith}
use Rattle.std.specs.Prelude.{not, if◌then◌else◌}
use Rattle.std.proofs.lemmas.Bool.{eqb-true, or_parts}
use Rattle.vx_value.specs.Fits.{Fits}
use Rattle.vx_value.specs.Types.{truth, LogicalType, ty, atomic, Datum, null, bool}
use Rattle.vx_dtype.specs.Lists.{IsIn}
use Rattle.vx_fn.specs.Functions.{is_truth}
use Rattle.vx_fn.specs.Values.{is_true}
use Rattle.vx_tree.proofs.Meant.{mean-unbound}
use Rattle.vx_tree.proofs.Trees.{each_passes, value-fits}
use Rattle.vx_tree.specs.Meaning.{mean}
use Rattle.vx_tree.specs.Trees.{BoundTree, unbound, node_type, WellTyped}
use Rattle.vx_prune_bounds.specs.Bounds.{Bounds, contains, Contains}
use Rattle.vx_prune_bounds.specs.declared.truths.Truths.{Truths}
use Rattle.vx_prune_bounds.specs.Truths.{truths_in, may_fail}
use Rattle.vx_prune_tree.specs.Stats.{Facts}
use Rattle.vx_prune_tree.proofs.Holding.{bounds-hold}
use Rattle.vx_prune_tree.specs.Bounding.{bounds_in}
use Rattle.vx_prune_tree.specs.Verdicts.{verdict_of, verdict_in, IsTrueVerdict, VerdictHolds}
use Rattle.vx_prune_tree.specs.declared.verdicts.Verdict.{Verdict}
use Rattle.vx_prune_tree.specs.declared.verdicts.Verdict.TheVariants.{NoRow, EveryRow, Unknown}

-- what can't be true isn't
never_true : (b : Bounds) (w : Datum) → Contains b w → contains b (bool true) ≡ false → is_true w ≡ false
never_true b (bool true) h e = absurd (let x : true ≡ false = sym h ∙ e in cc)
never_true b (bool false) h e = refl
never_true b _ h e = refl

-- a truth value that can be neither null nor false is true
always_true : (b : Bounds) (t : LogicalType) (w : Datum) → is_truth t ≡ true → Fits w t → Contains b w → may_fail (truths_in b) ≡ false → is_true w ≡ true
always_true b t (bool true) k f h e = refl
always_true b t (bool false) k f h e = let q = or_parts (contains b null) (contains b (bool false)) e in absurd (let x : true ≡ false = sym h ∙ q.1 in cc)
always_true b t null k f h e = let q = or_parts (contains b null) (contains b (bool false)) e in absurd (let x : true ≡ false = sym h ∙ q.0 in cc)
always_true b (ty (atomic truth) n) _ k f h e = cc
always_true b t _ k f h e = cc

-- no row is one of none
none_in : (rows : List Datum) (v : Datum) → length rows ≡ 0 → IsIn v rows → ⊥
none_in [] v e i = i
none_in (w ∷ rows) v e i = omega arith

pub verdict_in-holds : (facts : Facts) (b : BoundTree) → WellTyped b → is_truth (node_type b) ≡ true → VerdictHolds facts b (verdict_in facts b)
verdict_in-holds facts b w k = λ s rows o batch d n.
    let t = truths_in (bounds_in facts b) in
    let within = bounds-hold facts b w s rows o batch d n in
    let fit = λ (v : Datum) (i : IsIn v rows). subst (λ x. Fits x (node_type b)) (sym (mean-unbound b s v w o)) (value-fits b s rows v w o n i (each_passes _ rows v batch i)) in
    let never = λ (e : t.yes ≡ false) (v : Datum) (i : IsIn v rows). never_true (bounds_in facts b) _ (within v i) e in
    let always = λ (e : may_fail t ≡ false) (v : Datum) (i : IsIn v rows). always_true (bounds_in facts b) (node_type b) _ k (fit v i) (within v i) e in
    chunk s rows t d.count never always (facts.rows == 0) refl
  where
    decided : (s : LogicalType) (rows : List Datum) (t : Truths)
        (never : t.yes ≡ false → (v : Datum) → IsIn v rows → is_true (mean (unbound b) s v) ≡ false)
        (always : may_fail t ≡ false → (v : Datum) → IsIn v rows → is_true (mean (unbound b) s v) ≡ true)
        (y f : Bool) → t.yes ≡ y → may_fail t ≡ f → IsTrueVerdict b s rows (if not y then NoRow else if not f then EveryRow else Unknown)
    decided s rows t never always false f p q = never p
    decided s rows t never always true false p q = always q
    decided s rows t never always true true p q = tt

    chunk : (s : LogicalType) (rows : List Datum) (t : Truths) → length rows ≡ facts.rows
        → (t.yes ≡ false → (v : Datum) → IsIn v rows → is_true (mean (unbound b) s v) ≡ false)
        → (may_fail t ≡ false → (v : Datum) → IsIn v rows → is_true (mean (unbound b) s v) ≡ true)
        → (c : Bool) → (facts.rows == 0) ≡ c → IsTrueVerdict b s rows (if c then NoRow else verdict_of t)
    chunk s rows t count never always true q = λ v i. absurd (none_in rows v (count ∙ eqb-true _ _ q) i)
    chunk s rows t count never always false q = decided s rows t never always t.yes (may_fail t) refl refl

-- what is answered of a chunk with rows
pub verdict_of-holds : (facts : Facts) (b : BoundTree) (n : ℕ) (x : Bounds) (t : Truths) (r : Verdict) → WellTyped b → is_truth (node_type b) ≡ true → n ≡ facts.rows → (n == 0) ≡ false →
    x ≡ bounds_in facts b → t ≡ truths_in x → r ≡ verdict_of t → VerdictHolds facts b r
verdict_of-holds facts b n x t r w k e some given may said =
    let truths : t ≡ truths_in (bounds_in facts b) = may ∙ ap truths_in given in
    let rows : (facts.rows == 0) ≡ false = ap (λ m. m == 0) (sym e) ∙ some in
    let exact : r ≡ verdict_in facts b = said ∙ ap verdict_of truths ∙ sym (ap (λ c. if c then NoRow else verdict_of (truths_in (bounds_in facts b))) rows) in
    subst (VerdictHolds facts b) (sym exact) (verdict_in-holds facts b w k)
