-- The paths that a tree asks for fix its value.
use Rattle.std.proofs.Common.{◌≡◌, List, [], ◌∷◌, refl, sym, subst, Bool, Some, None, ◌||◌, map}
use Rattle.vx_value.specs.Fields.{field_type, field_value}
use Rattle.vx_value.specs.Fits.{Fits, EachFits}
use Rattle.vx_dtype.specs.Lists.{forall2_nil, forall2_cons, IsIn}
use Rattle.vx_value.specs.Paths.{Path}
use Rattle.vx_value.specs.Types.{Name, LogicalType, ty, Shape, struct, Fields, Datum, null, struct_of}
use Rattle.vx_fn.proofs.Rows.{fn_type-found}
use Rattle.vx_fn.proofs.Sound.{included-known}
use Rattle.vx_fn.specs.Functions.{Function, get_item, included}
use Rattle.vx_fn.specs.Rows.{FnType, of_get_item, of_select}
use Rattle.vx_fn.specs.Values.{fn_value}
use Rattle.vx_tree.proofs.Trees.{or_none, value-fits, values-fit}
use Rattle.vx_tree.specs.Faults.{HasNoFault, each_fault}
use Rattle.vx_tree.specs.Meaning.{value, values}
use Rattle.vx_tree.specs.Trees.{BoundTree, scope, node, BoundTrees, no_bound, bound, node_type, node_types, WellTyped, EachWellTyped, Over, EachOver}
use Rattle.vx_rewrite_paths.specs.Agreement.{Agree, AgreeAlong}
use Rattle.vx_rewrite_paths.specs.Asked.{child_paths, asked, each_asked}
use Rattle.vx_rewrite_paths.specs.Leading.{Leads, EachLeads}
use Rattle.vx_rewrite_paths.proofs.Leading.{leads-nullability, agree-nullability, at_some, from_some, along-refl, agree-null, along-left, along-right, leads-append}
use Rattle.vx_rewrite_paths.proofs.Selections.{select_leads, select_agree}

-- ---- an item

item_leads : (a : Name) (fs : Fields) (s : Shape) (n m k : Bool) (paths : List Path) → field_type a fs ≡ Some (ty s m) → EachLeads paths (ty s k) → EachLeads (map (λ p. a ∷ p) paths) (ty (struct fs) n)
item_leads a fs s n m k [] e l = tt
item_leads a fs s n m k (path ∷ paths) e l =
    (from_some (field_type a fs) (ty s m) (λ t. Leads path t) e (leads-nullability path s k m l.0), item_leads a fs s n m k paths e l.1)

item_agree_one : (a : Name) (fs : Fields) (s : Shape) (n m : Bool) (path : Path) (v w : Datum) → field_type a fs ≡ Some (ty s m) → Agree (a ∷ path) (ty (struct fs) n) v w → Agree path (ty s (m || n)) (fn_value (get_item a) (ty (struct fs) n ∷ []) (v ∷ [])) (fn_value (get_item a) (ty (struct fs) n ∷ []) (w ∷ []))
item_agree_one a fs s n m path null null e h = agree-null path (ty s (m || n))
item_agree_one a fs s n m path (struct_of vs) (struct_of ws) e h =
    agree-nullability path s m (m || n) _ _ (at_some (field_type a fs) (ty s m) (λ t. Agree path t (field_value a fs vs) (field_value a fs ws)) e h)
item_agree_one a fs s n m path _ _ e h = elim h [ ]

item_agree : (a : Name) (fs : Fields) (s : Shape) (n m : Bool) (paths : List Path) (v w : Datum) → field_type a fs ≡ Some (ty s m) → AgreeAlong (map (λ p. a ∷ p) paths) (ty (struct fs) n) v w → AgreeAlong paths (ty s (m || n)) (fn_value (get_item a) (ty (struct fs) n ∷ []) (v ∷ [])) (fn_value (get_item a) (ty (struct fs) n ∷ []) (w ∷ []))
item_agree a fs s n m [] v w e h = tt
item_agree a fs s n m (path ∷ paths) v w e h = (item_agree_one a fs s n m path v w e h.0, item_agree a fs s n m paths v w e h.1)

-- ---- one node

-- the values agree along the paths, each as one of the type beside it
data EachAgree (ps : List Path) : List LogicalType → List Datum → List Datum → Type 0 where
  agree_none : EachAgree ps [] [] []
  agree_more : {t : LogicalType} {v w : Datum} {ts : List LogicalType} {vs ws : List Datum} → AgreeAlong ps t v w → EachAgree ps ts vs ws → EachAgree ps (t ∷ ts) (v ∷ vs) (w ∷ ws)

-- the paths lead to a place in each of the types
abbrev pub LeadEverywhere : List Path → List LogicalType → Type 0
LeadEverywhere ps [] = Unit {0}
LeadEverywhere ps (t ∷ ts) = EachLeads ps t × LeadEverywhere ps ts

no_paths_lead : (ts : List LogicalType) → LeadEverywhere [] ts
no_paths_lead [] = tt
no_paths_lead (t ∷ ts) = (tt, no_paths_lead ts)

roots_lead : (ts : List LogicalType) → LeadEverywhere ([] ∷ []) ts
roots_lead [] = tt
roots_lead (t ∷ ts) = ((tt, tt), roots_lead ts)

equal_values : {ts : List LogicalType} {vs ws : List Datum} → EachAgree ([] ∷ []) ts vs ws → vs ≡ ws
equal_values agree_none = refl
equal_values (agree_more {v = v} {w = w} {vs = vs} {ws = ws} e es) = let q : v ≡ w = e.0 in let r : vs ≡ ws = equal_values es in cc

-- what a node asks its children for leads to places in their types
pub node_leads : {f : Function} {ts : List LogicalType} {t : LogicalType} (paths : List Path) → FnType f ts t → EachLeads paths t → LeadEverywhere (child_paths f ts paths) ts
node_leads {ts = ts} [] d l = no_paths_lead ts
node_leads (path ∷ paths) (of_get_item {a = a} {fs = fs} {s = s} {n = n} {m = m} e) l = (item_leads a fs s n m (m || n) (path ∷ paths) e l, tt)
node_leads (path ∷ paths) (of_select {sel = sel} {fs = fs} {n = n} e) l = (select_leads (included sel fs) fs n (path ∷ paths) (included-known sel fs e) l, tt)
node_leads {ts = ts} (path ∷ paths) _ l = roots_lead ts

by_equal : (f : Function) (ts : List LogicalType) (t : LogicalType) (vs ws : List Datum) (paths : List Path) → EachLeads paths t → Fits (fn_value f ts vs) t → vs ≡ ws → AgreeAlong paths t (fn_value f ts vs) (fn_value f ts ws)
by_equal f ts t vs ws paths l e q = subst (λ ws. AgreeAlong paths t (fn_value f ts vs) (fn_value f ts ws)) q (along-refl paths t (fn_value f ts vs) l e)

-- where its children agree along what they are asked for, a node agrees along what it is asked for
node_agree : {f : Function} {ts : List LogicalType} {t : LogicalType} {vs ws : List Datum} (paths : List Path) → FnType f ts t → EachLeads paths t → EachFits vs ts → EachFits ws ts → Fits (fn_value f ts vs) t → EachAgree (child_paths f ts paths) ts vs ws → AgreeAlong paths t (fn_value f ts vs) (fn_value f ts ws)
node_agree [] d l x y e a = tt
node_agree (path ∷ paths) (of_get_item {a = a} {fs = fs} {s = s} {n = n} {m = m} h) l x y e (agree_more {v = v} {w = w} g agree_none) = item_agree a fs s n m (path ∷ paths) v w h g
node_agree (path ∷ paths) (of_select {sel = sel} {fs = fs} {n = n} h) l (forall2_cons x forall2_nil) (forall2_cons y forall2_nil) e (agree_more {v = v} {w = w} g agree_none) =
    select_agree (included sel fs) fs n (path ∷ paths) v w (included-known sel fs h) x y l g
node_agree {f = f} {ts = ts} {t = t} {vs = vs} {ws = ws} (path ∷ paths) _ l x y e a = by_equal f ts t vs ws (path ∷ paths) l e (equal_values a)

-- ---- trees

-- two rows that agree along what a tree asks for give it values that agree along what it is asked for
mutual
  pub paths-agree : (b : BoundTree) (s : LogicalType) (first second : List Datum) (v w : Datum) (paths : List Path) → WellTyped b → Over b s → HasNoFault b first → HasNoFault b second → IsIn v first → IsIn w second → Fits v s → Fits w s → EachLeads paths (node_type b) → AgreeAlong (asked b paths) s v w → AgreeAlong paths (node_type b) (value b v) (value b w)
  paths-agree (scope t) s first second v w paths k o m n i j x y l a = subst (λ u. AgreeAlong paths u v w) (sym o) a
  paths-agree (node t f bs) s first second v w paths k o m n i j x y l a =
      let d = fn_type-found f (node_types bs) t k.0 in
      let p = or_none _ _ m in
      let q = or_none _ _ n in
      node_agree paths d l (values-fit bs s first v k.2 o p.0 i x) (values-fit bs s second w k.2 o q.0 j y)
      (value-fits (node t f bs) s first v k o m i x)
      (each_paths-agree bs s first second v w (child_paths f (node_types bs) paths) k.2 o p.0 q.0 i j x y (node_leads paths d l) a)

  each_paths-agree : (bs : BoundTrees) (s : LogicalType) (first second : List Datum) (v w : Datum) (paths : List Path) → EachWellTyped bs → EachOver bs s → each_fault bs first ≡ None → each_fault bs second ≡ None → IsIn v first → IsIn w second → Fits v s → Fits w s → LeadEverywhere paths (node_types bs) → AgreeAlong (each_asked bs paths) s v w → EachAgree paths (node_types bs) (values bs v) (values bs w)
  each_paths-agree no_bound s first second v w paths k o m n i j x y l a = agree_none
  each_paths-agree (bound b bs) s first second v w paths k o m n i j x y l a =
      let p = or_none _ _ m in
      let q = or_none _ _ n in
      agree_more
      (paths-agree b s first second v w paths k.0 o.0 p.0 q.0 i j x y l.0 (along-left (asked b paths) (each_asked bs paths) s v w a))
      (each_paths-agree bs s first second v w paths k.1 o.1 p.1 q.1 i j x y l.1 (along-right (asked b paths) (each_asked bs paths) s v w a))

-- the asked paths lead to places in the scope's type
mutual
  pub asked-lead : (b : BoundTree) (s : LogicalType) (paths : List Path) → WellTyped b → Over b s → EachLeads paths (node_type b) → EachLeads (asked b paths) s
  asked-lead (scope t) s paths w o l = subst (λ t. EachLeads paths t) o l
  asked-lead (node t f bs) s paths w o l = each_asked-lead bs s (child_paths f (node_types bs) paths) w.2 o (node_leads paths (fn_type-found f (node_types bs) t w.0) l)

  pub each_asked-lead : (bs : BoundTrees) (s : LogicalType) (paths : List Path) → EachWellTyped bs → EachOver bs s → LeadEverywhere paths (node_types bs) → EachLeads (each_asked bs paths) s
  each_asked-lead no_bound s paths w o l = tt
  each_asked-lead (bound b bs) s paths w o l = leads-append (asked b paths) (each_asked bs paths) s (asked-lead b s paths w.0 o.0 l.0) (each_asked-lead bs s paths w.1 o.1 l.1)
