-- The type of a CASE: above the type of its first value, and above that of the CASE without its first pair.
use Rattle.std.proofs.Common.{◌≡◌, ℕ, zero, suc, ◌-◌, ◌≤◌, ◌==◌, List, [], ◌∷◌, length, refl, sym, subst, Bool, true, false, not, arith}
use Rattle.std.specs.Prelude.{Some}
use Rattle.std.specs.List.{list_all}
use Rattle.std.proofs.Math.Dec.{eqb-suc-zero}
use Rattle.std.proofs.lemmas.Bool.{and_parts, eqb-true, eq-eqb}
use Rattle.vx_value.specs.Types.{LogicalType, ty, null, with_nullability}
use Rattle.vx_value.specs.Fits.{Fits}
use Rattle.vx_dtype.specs.Joins.{same_base, join, union_all, Narrower, narrower}
use Rattle.vx_fn.specs.Functions.{case_when, case_children, with_else, conditions, branches, is_truth}
use Rattle.vx_fn.specs.Rows.{FnType, of_case_else, of_case}
use Rattle.vx_fn.proofs.Monotone.{narrower_refl, shape_refl, nullable-mono, join-mono, same_at}
use Rattle.vx_rewrite_core.proofs.Keeping.{narrower_trans}
use Rattle.vx_dtype.proofs.Unions.{above-left, above-right}

-- ---- unions

-- the union is above the first type
first_below : (t : LogicalType) (us : List LogicalType) (w : LogicalType) → union_all t us ≡ Some w → Narrower t w
first_below t [] w e = let q : t ≡ w = cc in subst (Narrower t) q (narrower_refl t)
first_below t (u ∷ us) w e =
    let x = same_at t u us w e in
    narrower_trans (above-left t u x.0) (first_below (join t u) us w x.1)

-- the types have a union, which is no wider than w
abbrev pub UnionBelow : LogicalType → List LogicalType → LogicalType → Type 0
UnionBelow t us w = (v : LogicalType) × (union_all t us ≡ Some v) × Narrower v w

-- so they have after a narrower first one
union_below : {t' t : LogicalType} (us : List LogicalType) (w : LogicalType) → Narrower t' t → union_all t us ≡ Some w → UnionBelow t' us w
union_below {t' = t'} {t = t} [] w p e = let q : t ≡ w = cc in (t', refl, subst (Narrower t') q p)
union_below {t' = t'} {t = t} (u ∷ us) w p e =
    let x = same_at t u us w e in
    let k = join-mono p (narrower_refl u) x.0 in
    let r = union_below us w k.1 x.1 in
    let y : same_base t' u ≡ true = k.0 in
    (r.0, rw y r.1, r.2)

-- and without the first one
union_behind : (t u : LogicalType) (us : List LogicalType) (w : LogicalType) → union_all t (u ∷ us) ≡ Some w → UnionBelow u us w
union_behind t u us w e =
    let x = same_at t u us w e in
    union_below us w (above-right t u x.0) x.1

-- ---- a CASE

else_above : (has_else : Bool) (w : LogicalType) → Narrower w (with_else has_else w)
else_above true w = narrower_refl w
else_above false (ty s n) = narrower (shape_refl s) (λ e. refl)

else-mono : (has_else : Bool) (v w : LogicalType) → Narrower v w → Narrower (with_else has_else v) (with_else has_else w)
else-mono true v w p = p
else-mono false v w p = nullable-mono true true (λ e. e) p

-- what typing says of a CASE over a condition of type c, a value of type a and others
pub record CaseTyped (pairs : ℕ) (has_else : Bool) (c a : LogicalType) (ts : List LogicalType) (t : LogicalType) : Type 0 where
  pub joined : LogicalType
  pub union : union_all a (branches ts) ≡ Some joined
  pub type : t ≡ with_else has_else joined
  pub count : length (c ∷ a ∷ ts) ≡ case_children pairs has_else
  pub some : not (pairs == 0) ≡ true
  pub truths : list_all is_truth (conditions ts) ≡ true

pub case_typed : {pairs : ℕ} {has_else : Bool} {c a t : LogicalType} {ts : List LogicalType} → FnType (case_when pairs has_else) (c ∷ a ∷ ts) t → CaseTyped pairs has_else c a ts t
case_typed {c = c} {a = a} {ts = ts} (of_case_else {k = k} {us = us} {u = u} {w = w} l z d e f) =
    let x : a ≡ u = cc in
    let y : branches ts ≡ us = cc in
    record {
      joined = w;
      union = subst (λ vs. union_all a vs ≡ Some w) (sym y) (subst (λ v. union_all v us ≡ Some w) (sym x) f);
      type = refl;
      count = eqb-true _ _ l;
      some = z;
      truths = (and_parts _ _ d).1;
    }
case_typed {c = c} {a = a} {ts = ts} (of_case {k = k} {us = us} {u = u} {w = w} l z d e f) =
    let x : a ≡ u = cc in
    let y : branches ts ≡ us = cc in
    record {
      joined = w;
      union = subst (λ vs. union_all a vs ≡ Some w) (sym y) (subst (λ v. union_all v us ≡ Some w) (sym x) f);
      type = refl;
      count = eqb-true _ _ l;
      some = z;
      truths = (and_parts _ _ d).1;
    }

-- its type is above that of its first value
pub first_narrower : {pairs : ℕ} {has_else : Bool} {c a t : LogicalType} {ts : List LogicalType} → CaseTyped pairs has_else c a ts t → Narrower a t
first_narrower {has_else = has_else} {a = a} {ts = ts} k =
    subst (Narrower a) (sym k.type) (narrower_trans (first_below a (branches ts) k.joined k.union) (else_above has_else k.joined))

-- the type of the CASE without its first pair, which is no wider
abbrev pub OthersTyped : ℕ → Bool → List LogicalType → LogicalType → Type 0
OthersTyped pairs has_else ts t = (u : LogicalType) × FnType (case_when (pairs - 1) has_else) ts u × Narrower u t

abbrev HasBranch : List LogicalType → Type 0
HasBranch ts = (v : LogicalType) × (vs : List LogicalType) × (branches ts ≡ v ∷ vs)

some_branch : (ts : List LogicalType) → 1 ≤ length ts → HasBranch ts
some_branch [] h = absurd (omega arith)
some_branch (e ∷ []) h = (e, [], refl)
some_branch (c ∷ v ∷ rest) h = (v, branches rest, refl)

pub not_zero : (n : ℕ) → 1 ≤ n → not (n == 0) ≡ true
not_zero zero h = absurd (omega arith)
not_zero (suc n) h = rw (eqb-suc-zero n) refl

pub others_typed : (pairs : ℕ) (has_else : Bool) {c a t : LogicalType} (ts : List LogicalType) → 2 ≤ pairs → CaseTyped pairs has_else c a ts t → OthersTyped pairs has_else ts t
others_typed pairs true {a = a} {t = t} ts h k =
    let n = k.count in
    let b = some_branch ts (omega arith) in
    let r = union_behind a b.0 b.1 k.joined (subst (λ vs. union_all a vs ≡ Some k.joined) b.2 k.union) in
    (r.0, of_case_else (eq-eqb _ _ (omega arith)) (not_zero (pairs - 1) (omega arith)) k.truths b.2 r.1, subst (Narrower r.0) (sym k.type) r.2)
others_typed pairs false {a = a} {t = t} ts h k =
    let n = k.count in
    let b = some_branch ts (omega arith) in
    let r = union_behind a b.0 b.1 k.joined (subst (λ vs. union_all a vs ≡ Some k.joined) b.2 k.union) in
    (with_nullability true r.0, of_case (eq-eqb _ _ (omega arith)) (not_zero (pairs - 1) (omega arith)) k.truths b.2 r.1, subst (Narrower (with_nullability true r.0)) (sym k.type) (else-mono false r.0 k.joined r.2))

-- its type is above that of ELSE
pub else_narrower : {pairs : ℕ} {c a b t : LogicalType} → CaseTyped pairs true c a (b ∷ []) t → Narrower b t
else_narrower {a = a} {b = b} k =
    let r = union_behind a b [] k.joined k.union in
    let q : b ≡ r.0 = cc in
    subst (Narrower b) (sym k.type) (subst (λ v. Narrower v k.joined) (sym q) r.2)

-- and without ELSE it has a null
pub null_fits : {pairs : ℕ} {c a t : LogicalType} {ts : List LogicalType} → CaseTyped pairs false c a ts t → Fits null t
null_fits k = subst (Fits null) (sym k.type) (fits k.joined)
  where
    fits : (w : LogicalType) → Fits null (with_nullability true w)
    fits (ty s n) = refl
