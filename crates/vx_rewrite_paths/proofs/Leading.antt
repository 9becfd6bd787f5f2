-- Agreement along paths that lead to a place in a type.
use Rattle.std.proofs.Common.{◌≡◌, List, [], ◌∷◌, ◌++◌, refl, sym, subst, Bool, true, false, Option, Some, None}
use Rattle.std.specs.Option.{IsSomeAnd}
use Rattle.vx_value.proofs.Fitting.{field_value-fits}
use Rattle.vx_value.specs.Fields.{field_type, field_value}
use Rattle.vx_value.specs.Fits.{Fits}
use Rattle.vx_value.specs.Paths.{Path}
use Rattle.vx_value.specs.Types.{LogicalType, ty, Shape, atomic, list, fixed, struct, Datum, null, struct_of}
use Rattle.vx_rewrite_paths.specs.Agreement.{Agree, AgreeAlong}
use Rattle.vx_rewrite_paths.specs.Leading.{Leads, EachLeads}

-- nullability matters neither to paths nor to agreement
pub leads-nullability : (path : Path) (s : Shape) (n m : Bool) → Leads path (ty s n) → Leads path (ty s m)
leads-nullability [] s n m l = tt
leads-nullability (a ∷ path) (struct fs) n m l = l
leads-nullability (a ∷ path) (atomic p) n m l = l
leads-nullability (a ∷ path) (list t) n m l = l
leads-nullability (a ∷ path) (fixed t k) n m l = l

pub agree-nullability : (path : Path) (s : Shape) (n m : Bool) (v w : Datum) → Agree path (ty s n) v w → Agree path (ty s m) v w
agree-nullability [] s n m v w e = e
agree-nullability (a ∷ path) s n m null null e = tt
agree-nullability (a ∷ path) (struct fs) n m (struct_of vs) (struct_of ws) e = e
agree-nullability (a ∷ path) _ n m _ _ e = elim e [ ]

-- what holds of an optional type where it is known
pub at_some : (o : Option LogicalType) (t : LogicalType) (P : LogicalType → Type 0) → o ≡ Some t → IsSomeAnd o P → P t
at_some None t P e p = elim p [ ]
at_some (Some u) t P e p = let q : u ≡ t = cc in subst P q p

pub from_some : (o : Option LogicalType) (t : LogicalType) (P : LogicalType → Type 0) → o ≡ Some t → P t → IsSomeAnd o P
from_some None t P e p = let x : Some t ≡ None = sym e in absurd cc
from_some (Some u) t P e p = let q : t ≡ u = cc in subst P q p

-- a value agrees with itself along the paths of its type
pub agree-refl : (path : Path) (t : LogicalType) (v : Datum) → Leads path t → Fits v t → Agree path t v v
agree-refl [] t v l e = refl
agree-refl (a ∷ path) t null l e = tt
agree-refl (a ∷ path) (ty (struct fs) n) (struct_of vs) l e = go (field_type a fs) refl l (λ t. agree-refl path t (field_value a fs vs))
  where
    go : (o : Option LogicalType) → field_type a fs ≡ o → IsSomeAnd o (λ t. Leads path t) → ((t : LogicalType) → Leads path t → Fits (field_value a fs vs) t → Agree path t (field_value a fs vs) (field_value a fs vs)) → IsSomeAnd o (λ t. Agree path t (field_value a fs vs) (field_value a fs vs))
    go None q l k = l
    go (Some t) q l k = k t l (field_value-fits a fs vs t q e)
agree-refl (a ∷ path) (ty (struct fs) n) _ l e = let x : false ≡ true = e in absurd cc
agree-refl (a ∷ path) _ v l e = elim l [ ]

pub along-refl : (paths : List Path) (t : LogicalType) (v : Datum) → EachLeads paths t → Fits v t → AgreeAlong paths t v v
along-refl [] t v l e = tt
along-refl (path ∷ paths) t v l e = (agree-refl path t v l.0 e, along-refl paths t v l.1 e)

-- two nulls agree along any path
pub agree-null : (path : Path) (t : LogicalType) → Agree path t null null
agree-null [] t = refl
agree-null (a ∷ path) t = tt

pub along-left : (ps qs : List Path) (t : LogicalType) (v w : Datum) → AgreeAlong (ps ++ qs) t v w → AgreeAlong ps t v w
along-left [] qs t v w e = tt
along-left (p ∷ ps) qs t v w e = (e.0, along-left ps qs t v w e.1)

pub along-right : (ps qs : List Path) (t : LogicalType) (v w : Datum) → AgreeAlong (ps ++ qs) t v w → AgreeAlong qs t v w
along-right [] qs t v w e = e
along-right (p ∷ ps) qs t v w e = along-right ps qs t v w e.1

pub leads-append : (ps qs : List Path) (t : LogicalType) → EachLeads ps t → EachLeads qs t → EachLeads (ps ++ qs) t
leads-append [] qs t l m = m
leads-append (p ∷ ps) qs t l m = (l.0, leads-append ps qs t l.1 m)

-- agreement along a path gives it along each longer path
pub agree-longer : (path more : Path) (t : LogicalType) (v w : Datum) → Leads (path ++ more) t → Fits v t → Agree path t v w → Agree (path ++ more) t v w
agree-longer [] more t v w l e a = subst (λ w. Agree more t v w) a (agree-refl more t v l e)
agree-longer (a ∷ path) more t null null l e h = tt
agree-longer (a ∷ path) more (ty (struct fs) n) (struct_of vs) (struct_of ws) l e h =
    go (field_type a fs) refl l h (λ t. agree-longer path more t (field_value a fs vs) (field_value a fs ws))
  where
    go : (o : Option LogicalType) → field_type a fs ≡ o → IsSomeAnd o (λ t. Leads (path ++ more) t) → IsSomeAnd o (λ t. Agree path t (field_value a fs vs) (field_value a fs ws)) → ((t : LogicalType) → Leads (path ++ more) t → Fits (field_value a fs vs) t → Agree path t (field_value a fs vs) (field_value a fs ws) → Agree (path ++ more) t (field_value a fs vs) (field_value a fs ws)) → IsSomeAnd o (λ t. Agree (path ++ more) t (field_value a fs vs) (field_value a fs ws))
    go None q l h k = l
    go (Some t) q l h k = k t l (field_value-fits a fs vs t q e) h
agree-longer (a ∷ path) more _ _ _ l e h = elim h [ ]
