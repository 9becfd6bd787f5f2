-- The values of a tree that is a path are the rows' values along it.
use Rattle.std.proofs.Common.{◌≡◌, [], ◌∷◌, ◌++◌, refl, sym, ap, subst, ◌∙◌, Bool, Option, Some, None, ◌||◌, append_assoc}
use Rattle.std.proofs.lemmas.List.{append-nil}
use Rattle.std.specs.Prelude.{option_map}
use Rattle.vx_value.specs.Fields.{field_type, field_value}
use Rattle.vx_value.specs.Paths.{Path}
use Rattle.vx_value.specs.Types.{Name, LogicalType, ty, Shape, atomic, list, fixed, struct, Fields, Datum, struct_of}
use Rattle.vx_fn.proofs.Rows.{fn_type-found}
use Rattle.vx_fn.specs.Functions.{get_item}
use Rattle.vx_fn.specs.Rows.{FnType, of_get_item}
use Rattle.vx_fn.specs.Values.{item_value}
use Rattle.vx_tree.specs.Meaning.{value}
use Rattle.vx_tree.specs.Trees.{BoundTree, scope, node, no_bound, bound, node_type, WellTyped, Over}
use Rattle.vx_prune_tree.proofs.StatisticsPaths.{at_path-null}
use Rattle.vx_prune_tree.specs.Stats.{at_path, in_known}
use Rattle.vx_prune_tree.specs.Bounding.{path_to}

-- nullability doesn't matter to a path
at_path-nullability : (s : Shape) (n m : Bool) (path : Path) (v : Datum) → at_path (ty s n) path v ≡ at_path (ty s m) path v
at_path-nullability s n m [] v = refl
at_path-nullability (struct fs) n m (a ∷ path) (struct_of vs) = refl
at_path-nullability (struct fs) n m (a ∷ path) v = refl
at_path-nullability (atomic p) n m (a ∷ path) v = refl
at_path-nullability (list t) n m (a ∷ path) v = refl
at_path-nullability (fixed t k) n m (a ∷ path) v = refl

-- along a path that begins with a name is what is along its rest in the field of that name
item-along : (a : Name) (fs : Fields) (s : Shape) (n m : Bool) (v : Datum) (path : Path) → field_type a fs ≡ Some (ty s m) →
    at_path (ty (struct fs) n) (a ∷ path) v ≡ at_path (ty s (m || n)) path (item_value a (ty (struct fs) n ∷ []) v)
item-along a fs s n m (struct_of vs) path e =
    ap (λ o. in_known o (λ t. at_path t path (field_value a fs vs))) e ∙ at_path-nullability s m (m || n) path (field_value a fs vs)
item-along a fs s n m _ path e = sym (at_path-null (ty s (m || n)) path)

get_item-along : {a : Name} {u t : LogicalType} → FnType (get_item a) (u ∷ []) t → (v : Datum) (path : Path) →
    at_path u (a ∷ path) v ≡ at_path t path (item_value a (u ∷ []) v)
get_item-along (of_get_item {a = a} {fs = fs} {s = s} {n = n} {m = m} e) v path = item-along a fs s n m v path e

-- what ends with a name is a path with the name behind it
map_some : {A B : Type 0} (f : A → B) (o : Option A) (y : B) → option_map f o ≡ Some y → (x : A) × (o ≡ Some x) × (f x ≡ y)
map_some f None y e = cc
map_some f (Some x) y e = let q : f x ≡ y = cc in (x, refl, q)

-- a path with more behind it leads from the row to where the rest leads from the tree's value
pub path_to-along : (b : BoundTree) (s : LogicalType) (v : Datum) (path more : Path) → WellTyped b → Over b s → path_to b ≡ Some path →
    at_path s (path ++ more) v ≡ at_path (node_type b) more (value b v)
path_to-along (scope t) s v path more w o e =
    let root : [] ≡ path = cc in
    subst (λ p. at_path s (p ++ more) v ≡ at_path t more v) root (ap (λ u. at_path u more v) (sym o))
path_to-along (node t (get_item a) (bound b no_bound)) s v path more w o e =
    let q = map_some (λ p. p ++ a ∷ []) (path_to b) path e in
    let below : at_path s (q.0 ++ (a ∷ more)) v ≡ at_path (node_type b) (a ∷ more) (value b v) = path_to-along b s v q.0 (a ∷ more) w.2.0 o.0 q.1 in
    let item : at_path (node_type b) (a ∷ more) (value b v) ≡ at_path t more (item_value a (node_type b ∷ []) (value b v)) = get_item-along (fn_type-found (get_item a) (node_type b ∷ []) t w.0) (value b v) more in
    let longer : path ++ more ≡ q.0 ++ (a ∷ more) = ap (λ p. p ++ more) (sym q.2) ∙ append_assoc q.0 (a ∷ []) more in
    ap (λ p. at_path s p v) longer ∙ below ∙ item
path_to-along (node t f bs) s v path more w o e = cc

-- the tree's value is the row's along the tree's path
pub path_to-value : (b : BoundTree) (s : LogicalType) (v : Datum) (path : Path) → WellTyped b → Over b s → path_to b ≡ Some path → at_path s path v ≡ value b v
path_to-value b s v path w o e = ap (λ p. at_path s p v) (sym (append-nil path)) ∙ path_to-along b s v path [] w o e
