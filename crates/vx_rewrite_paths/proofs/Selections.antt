-- What a selection asks its child for fixes what it is asked for.
use Rattle.std.proofs.Common.{◌≡◌, List, [], ◌∷◌, refl, ap, subst, Bool, true, false, Option, Some, None}
use Rattle.std.specs.Prelude.{if◌then◌else◌, is_some}
use Rattle.std.specs.List.{flat_map}
use Rattle.std.specs.Option.{IsSomeAnd}
use Rattle.vx_dtype.proofs.Known.{known_first}
use Rattle.vx_value.specs.Fields.{field_type, field_value, first_unknown, is_among, project, project_values}
use Rattle.vx_value.specs.Fits.{Fits}
use Rattle.vx_value.specs.Paths.{Path}
use Rattle.vx_value.specs.Types.{Name, LogicalType, ty, struct, Fields, no_field, Datum, null, struct_of, Data}
use Rattle.vx_rewrite_paths.specs.Agreement.{Agree, AgreeAlong}
use Rattle.vx_rewrite_paths.specs.Asked.{each_alone, selected_path, selected_paths}
use Rattle.vx_rewrite_paths.specs.Leading.{Leads, EachLeads}
use Rattle.vx_rewrite_paths.proofs.Leading.{along-refl, along-left, along-right, leads-append}
use Rattle.vx_rewrite_paths.proofs.Projections.{project-type, project-value, project-missing}

-- ---- what is asked for leads to a place in the child's type

names-lead : (names : List Name) (fs : Fields) (n : Bool) → first_unknown names fs ≡ None → EachLeads (each_alone names) (ty (struct fs) n)
names-lead [] fs n k = tt
names-lead (a ∷ names) fs n k =
    let x = known_first a names fs k in
    (go (field_type a fs) x.0, names-lead names fs n x.1)
  where
    go : (o : Option LogicalType) → is_some o ≡ true → IsSomeAnd o (λ t. Unit {0})
    go None h = cc
    go (Some t) h = tt

select_leads_one : (names : List Name) (fs : Fields) (n : Bool) (path : Path) → first_unknown names fs ≡ None → Leads path (ty (struct (project names fs)) n) → EachLeads (selected_path names path) (ty (struct fs) n)
select_leads_one names fs n [] k l = names-lead names fs n k
select_leads_one names fs n (b ∷ path) k l = go (is_among names b) refl
  where
    go : (c : Bool) → is_among names b ≡ c → EachLeads (if c then (b ∷ path) ∷ [] else []) (ty (struct fs) n)
    go false m = tt
    go true m = (subst (λ o. IsSomeAnd o (λ t. Leads path t)) (project-type b names fs k m) l, tt)

select_leads_each : (names : List Name) (fs : Fields) (n : Bool) (paths : List Path) → first_unknown names fs ≡ None → EachLeads paths (ty (struct (project names fs)) n) → EachLeads (flat_map (selected_path names) paths) (ty (struct fs) n)
select_leads_each names fs n [] k l = tt
select_leads_each names fs n (path ∷ paths) k l = leads-append (selected_path names path) _ _ (select_leads_one names fs n path k l.0) (select_leads_each names fs n paths k l.1)

pub select_leads : (names : List Name) (fs : Fields) (n : Bool) (paths : List Path) → first_unknown names fs ≡ None → EachLeads paths (ty (struct (project names fs)) n) → EachLeads (selected_paths names n paths) (ty (struct fs) n)
select_leads [] fs false paths k l = tt
select_leads [] fs true paths k l = (tt, tt)
select_leads (a ∷ names) fs n paths k l = select_leads_each (a ∷ names) fs n paths k l

-- ---- the selection's values agree along what it is asked for

-- the value of a selection of these names
abbrev pub taken : List Name → Fields → Datum → Datum
taken names fs (struct_of vs) = struct_of (project_values names fs vs)
taken names fs _ = null

at_equal : (o : Option LogicalType) (v w : Datum) → IsSomeAnd o (λ t. v ≡ w) → v ≡ w
at_equal None v w e = elim e [ ]
at_equal (Some t) v w e = e

names-agree : (names : List Name) (fs : Fields) (n : Bool) (vs ws : Data) → AgreeAlong (each_alone names) (ty (struct fs) n) (struct_of vs) (struct_of ws) → project_values names fs vs ≡ project_values names fs ws
names-agree [] fs n vs ws e = refl
names-agree (a ∷ names) fs n vs ws e = rw (at_equal (field_type a fs) (field_value a fs vs) (field_value a fs ws) e.0, names-agree names fs n vs ws e.1) refl

taken-null : (a : Name) (names : List Name) (fs : Fields) (n : Bool) (v w : Datum) → AgreeAlong (each_alone (a ∷ names)) (ty (struct fs) n) v w → taken (a ∷ names) fs v ≡ taken (a ∷ names) fs w
taken-null a names fs n null null e = refl
taken-null a names fs n (struct_of vs) (struct_of ws) e = ap struct_of (names-agree (a ∷ names) fs n vs ws e)
taken-null a names fs n _ _ e = elim e.0 [ ]

select_agree_on : (names : List Name) (fs : Fields) (n : Bool) (b : Name) (path : Path) (v w : Datum) → first_unknown names fs ≡ None → is_among names b ≡ true → Agree (b ∷ path) (ty (struct fs) n) v w → Agree (b ∷ path) (ty (struct (project names fs)) n) (taken names fs v) (taken names fs w)
select_agree_on names fs n b path null null k m e = tt
select_agree_on names fs n b path (struct_of vs) (struct_of ws) k m e =
    rw (project-type b names fs k m, project-value b names fs vs k m, project-value b names fs ws k m) e
select_agree_on names fs n b path _ _ k m e = elim e [ ]

select_agree_one : (a : Name) (names : List Name) (fs : Fields) (n : Bool) (path : Path) (v w : Datum) → first_unknown (a ∷ names) fs ≡ None → Leads path (ty (struct (project (a ∷ names) fs)) n) → AgreeAlong (selected_path (a ∷ names) path) (ty (struct fs) n) v w → Agree path (ty (struct (project (a ∷ names) fs)) n) (taken (a ∷ names) fs v) (taken (a ∷ names) fs w)
select_agree_one a names fs n [] v w k l e = taken-null a names fs n v w e
select_agree_one a names fs n (b ∷ path) v w k l e = go (is_among (a ∷ names) b) refl e
  where
    go : (c : Bool) → is_among (a ∷ names) b ≡ c → AgreeAlong (if c then (b ∷ path) ∷ [] else []) (ty (struct fs) n) v w → Agree (b ∷ path) (ty (struct (project (a ∷ names) fs)) n) (taken (a ∷ names) fs v) (taken (a ∷ names) fs w)
    go true m e = select_agree_on (a ∷ names) fs n b path v w k m e.0
    go false m e = absurd (subst (λ o. IsSomeAnd o (λ t. Leads path t)) (project-missing b (a ∷ names) fs m) l)

select_agree_each : (a : Name) (names : List Name) (fs : Fields) (n : Bool) (paths : List Path) (v w : Datum) → first_unknown (a ∷ names) fs ≡ None → EachLeads paths (ty (struct (project (a ∷ names) fs)) n) → AgreeAlong (flat_map (selected_path (a ∷ names)) paths) (ty (struct fs) n) v w → AgreeAlong paths (ty (struct (project (a ∷ names) fs)) n) (taken (a ∷ names) fs v) (taken (a ∷ names) fs w)
select_agree_each a names fs n [] v w k l e = tt
select_agree_each a names fs n (path ∷ paths) v w k l e = (
  select_agree_one a names fs n path v w k l.0 (along-left (selected_path (a ∷ names) path) _ _ v w e),
  select_agree_each a names fs n paths v w k l.1 (along-right (selected_path (a ∷ names) path) _ _ v w e),
)

-- both are structs where the type isn't nullable
not_null : (fs : Fields) (v w : Datum) → Fits v (ty (struct fs) false) → Fits w (ty (struct fs) false) → taken [] fs v ≡ taken [] fs w
not_null fs (struct_of vs) (struct_of ws) e h = refl
not_null fs null w e h = cc
not_null fs v null e h = cc
not_null fs _ _ e h = cc

taken-fits : (n : Bool) (fs : Fields) (v : Datum) → Fits v (ty (struct fs) n) → Fits (taken [] fs v) (ty (struct no_field) n)
taken-fits n fs null e = e
taken-fits n fs (struct_of vs) e = refl
taken-fits n fs _ e = cc

pub select_agree : (names : List Name) (fs : Fields) (n : Bool) (paths : List Path) (v w : Datum) → first_unknown names fs ≡ None → Fits v (ty (struct fs) n) → Fits w (ty (struct fs) n) → EachLeads paths (ty (struct (project names fs)) n) → AgreeAlong (selected_paths names n paths) (ty (struct fs) n) v w → AgreeAlong paths (ty (struct (project names fs)) n) (taken names fs v) (taken names fs w)
select_agree [] fs false paths v w k e h l g =
    subst (λ x. AgreeAlong paths (ty (struct no_field) false) (taken [] fs v) x) (not_null fs v w e h) (along-refl paths (ty (struct no_field) false) (taken [] fs v) l (taken-fits false fs v e))
select_agree [] fs true paths v w k e h l g =
    subst (λ x. AgreeAlong paths (ty (struct no_field) true) (taken [] fs v) (taken [] fs x)) g.0 (along-refl paths (ty (struct no_field) true) (taken [] fs v) l (taken-fits true fs v e))
select_agree (a ∷ names) fs n paths v w k e h l g = select_agree_each a names fs n paths v w k l g
