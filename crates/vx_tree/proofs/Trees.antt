-- The same of whole trees.
use Rattle.std.proofs.Common.{◌≡◌, inl, inr, ◌+◌, ◌≤◌, List, [], ◌∷◌, length, refl, sym, ap, subst, Bool, true, false, arith, map, get_or}
use Rattle.std.specs.Prelude.{Option, Some, None, not, cond, position, nat_lt}
use Rattle.std.specs.List.{list_any, list_all, position_or_len, prefix_len}
use Rattle.std.specs.Option.{option_or, option_map}
use Rattle.std.proofs.lemmas.Bool.{and_parts, or_parts, ltb-false, le-ltb, not-false}
use Rattle.vx_fn.proofs.Rows.{fn_type-found}
use Rattle.vx_fn.proofs.Sound.{IsSafe, fn_value-fits}
use Rattle.vx_value.specs.Types.{LogicalType, Datum, is_null_datum}
use Rattle.vx_value.specs.Fits.{Fits, EachFits}
use Rattle.vx_dtype.specs.Lists.{forall2_nil, forall2_cons, IsIn}
use Rattle.vx_fn.specs.Functions.{Function, binary, computes, cast, fill_null}
use Rattle.vx_tree.specs.Meaning.{value, values}
use Rattle.vx_dtype.specs.declared.error.VortexError.{VortexError}
use Rattle.vx_dtype.specs.declared.error.VortexError.TheVariants.{CastNull}
use Rattle.vx_fn.specs.Faults.{has_fault, row_fault, misfits, fill_of, when, node_fault}
use Rattle.vx_tree.specs.Faults.{each_fault, HasNoFault}
use Rattle.vx_tree.specs.Trees.{BoundTree, scope, node, BoundTrees, no_bound, bound, node_type, node_types, WellTyped, EachWellTyped, Over, EachOver}

-- ---- lists

pub cond_none : {A : Type 0} (b : Bool) (x : A) → cond b (Some x) None ≡ None → b ≡ false
cond_none true x e = cc
cond_none false x e = refl

position_none : {A : Type 0} (p : A → Bool) (x : A) (xs : List A) → position p (x ∷ xs) ≡ None → (p x ≡ false) × (position p xs ≡ None)
position_none p x xs e = go (p x) (ltb-false _ _ (cond_none _ _ e))
  where
    go : (b : Bool) → length (x ∷ xs) ≤ cond (not b) (1 + prefix_len (λ y. not (p y)) xs) 0 → (b ≡ false) × (position p xs ≡ None)
    go true h = absurd (omega arith)
    go false h =
        let q : length xs ≤ position_or_len p xs = omega arith in
        let r : nat_lt (position_or_len p xs) (length xs) ≡ false = le-ltb _ _ q in
        (refl, rw r)

pub none_passes : {A : Type 0} (p : A → Bool) (xs : List A) (x : A) → position p xs ≡ None → IsIn x xs → p x ≡ false
none_passes p [] x e i = elim i [ ]
none_passes p (y ∷ ys) x e (inl q) = let r = position_none p y ys e in subst (λ z. p z ≡ false) (sym q) r.0
none_passes p (y ∷ ys) x e (inr i) = let r = position_none p y ys e in none_passes p ys x r.1 i

pub none_of_any : {A : Type 0} (p : A → Bool) (xs : List A) (x : A) → list_any p xs ≡ false → IsIn x xs → p x ≡ false
none_of_any p [] x e i = elim i [ ]
none_of_any p (y ∷ ys) x e (inl q) = let r = or_parts _ _ e in subst (λ z. p z ≡ false) (sym q) r.0
none_of_any p (y ∷ ys) x e (inr i) = let r = or_parts _ _ e in none_of_any p ys x r.1 i

pub each_passes : {A : Type 0} (p : A → Bool) (xs : List A) (x : A) → list_all p xs ≡ true → IsIn x xs → p x ≡ true
each_passes p [] x e i = elim i [ ]
each_passes p (y ∷ ys) x e (inl q) = let r = and_parts _ _ e in subst (λ z. p z ≡ true) (sym q) r.0
each_passes p (y ∷ ys) x e (inr i) = let r = and_parts _ _ e in each_passes p ys x r.1 i

pub IsIn-map : {A B : Type 0} (f : A → B) (xs : List A) (x : A) → IsIn x xs → IsIn (f x) (map f xs)
IsIn-map f [] x i = i
IsIn-map f (y ∷ ys) x (inl q) = inl (ap f q)
IsIn-map f (y ∷ ys) x (inr i) = inr (IsIn-map f ys x i)

pub or_none : {A : Type 0} (o p : Option A) → option_or o p ≡ None → (o ≡ None) × (p ≡ None)
or_none None p e = (refl, e)
or_none (Some x) p e = cc

pub map_none : {A B : Type 0} (f : A → B) (o : Option A) → option_map f o ≡ None → o ≡ None
map_none f None e = refl
map_none f (Some x) e = cc

pub when_none : (b : Bool) (x : VortexError) → when b x ≡ None → b ≡ false
when_none true x e = cc
when_none false x e = refl

-- ---- a node that doesn't fault on a batch is safe at each row

pub row_safe : (f : Function) (ts : List LogicalType) (rows : List (List Datum)) (row : List Datum) → node_fault f ts rows ≡ None → IsIn row rows → IsSafe f ts row
row_safe (binary (computes a)) ts rows row e i = none_passes (has_fault a ts) rows row (map_none (λ n. row_fault a (get_or rows n []) n) _ e) i
row_safe (cast t) ts rows row e i = none_passes (misfits t) rows row (map_none CastNull _ e) i
row_safe fill_null ts rows row e i =
    let a = or_parts _ _ (when_none _ _ e) in
    let b = or_parts _ _ a.0 in
    (not-false _ b.0, none_of_any is_null_datum (map fill_of rows) (fill_of row) b.1 (IsIn-map fill_of rows row i))
row_safe _ ts rows row e i = tt

mutual
  pub value-fits : (b : BoundTree) (s : LogicalType) (batch : List Datum) (v : Datum) → WellTyped b → Over b s → HasNoFault b batch → IsIn v batch → Fits v s → Fits (value b v) (node_type b)
  value-fits (scope t) s batch v w o n i e = subst (λ t. Fits v t) (sym o) e
  value-fits (node t f bs) s batch v w o n i e =
      let q = or_none _ _ n in
      let rows = map (values bs) batch in
      fn_value-fits (fn_type-found f (node_types bs) t w.0) w.1
      (row_safe f (node_types bs) rows (values bs v) q.1 (IsIn-map (values bs) batch v i))
      (values-fit bs s batch v w.2 o q.0 i e)

  pub values-fit : (bs : BoundTrees) (s : LogicalType) (batch : List Datum) (v : Datum) → EachWellTyped bs → EachOver bs s → each_fault bs batch ≡ None → IsIn v batch → Fits v s → EachFits (values bs v) (node_types bs)
  values-fit no_bound s batch v w o n i e = forall2_nil
  values-fit (bound b bs) s batch v w o n i e =
      let q = or_none _ _ n in
      forall2_cons (value-fits b s batch v w.0 o.0 q.0 i e) (values-fit bs s batch v w.1 o.1 q.1 i e)
