-- What is packed under a name is taken out by it.
use Rattle.std.proofs.Common.{◌≡◌, Bool, true, false, List, [], ◌∷◌, Some, refl, sym, ap, ◌∙◌}
use Rattle.std.specs.Prelude.{if◌then◌else◌, Ok}
use Rattle.std.specs.Str.{bytes_eq}
use Rattle.vx_value.specs.Types.{Name, LogicalType, ty, Datum}
use Rattle.vx_value.specs.Fields.{field_type, field_value, fields_named, data_of}
use Rattle.vx_fn.specs.Functions.{get_item, fn_type, found}
use Rattle.vx_tree.specs.Meaning.{value, values}
use Rattle.vx_tree.specs.Trees.{BoundTree, BoundTrees, no_bound, bound, node_type, node_types, WellTyped}
use Rattle.vx_partition_laws.specs.Items.{given_type, item_of, struct_type, joined, tree_named}

-- ---- a tree of that name, in the struct that the trees make

named-type : (a : Name) (names : List Name) (xs : BoundTrees) (x : BoundTree) → tree_named a names xs ≡ Some x → field_type a (fields_named names (node_types xs)) ≡ Some (node_type x)
named-type a [] no_bound x e = cc
named-type a [] (bound y ys) x e = cc
named-type a (b ∷ names) no_bound x e = cc
named-type a (b ∷ names) (bound y ys) x e = go (bytes_eq a b) e (named-type a names ys x)
  where
    go : (c : Bool) → (if c then Some y else tree_named a names ys) ≡ Some x → (tree_named a names ys ≡ Some x → field_type a (fields_named names (node_types ys)) ≡ Some (node_type x)) → (if c then Some (node_type y) else field_type a (fields_named names (node_types ys))) ≡ Some (node_type x)
    go true e k = let q : y ≡ x = cc in ap (λ z. Some (node_type z)) q
    go false e k = k e

named-value : (a : Name) (names : List Name) (xs : BoundTrees) (x : BoundTree) (v : Datum) → tree_named a names xs ≡ Some x → field_value a (fields_named names (node_types xs)) (data_of (values xs v)) ≡ value x v
named-value a [] no_bound x v e = cc
named-value a [] (bound y ys) x v e = cc
named-value a (b ∷ names) no_bound x v e = cc
named-value a (b ∷ names) (bound y ys) x v e = go (bytes_eq a b) e (named-value a names ys x v)
  where
    go : (c : Bool) → (if c then Some y else tree_named a names ys) ≡ Some x → (tree_named a names ys ≡ Some x → field_value a (fields_named names (node_types ys)) (data_of (values ys v)) ≡ value x v) → (if c then value y v else field_value a (fields_named names (node_types ys)) (data_of (values ys v))) ≡ value x v
    go true e k = let q : y ≡ x = cc in ap (λ z. value z v) q
    go false e k = k e

-- ---- items, typed anew

found_ok : (a : Name) (t : LogicalType) → found a false (Some t) ≡ Ok t
found_ok a (ty s true) = refl
found_ok a (ty s false) = refl

-- the type of an item of a struct of these trees
item-typing : (a : Name) (names : List Name) (bs : BoundTrees) (x : BoundTree) (t : LogicalType) → t ≡ struct_type names bs → tree_named a names bs ≡ Some x → fn_type (get_item a) (t ∷ []) ≡ Ok (node_type x)
item-typing a names bs x t e c = ap (λ u. fn_type (get_item a) (u ∷ [])) e ∙ (ap (found a false) (named-type a names bs x c) ∙ found_ok a (node_type x))

module _ (a : Name) (names : List Name) (bs : BoundTrees) (x b : BoundTree) (e : node_type b ≡ struct_type names bs) (c : tree_named a names bs ≡ Some x) where
  pub item-type : node_type (item_of a b) ≡ node_type x
  item-type = ap given_type (item-typing a names bs x (node_type b) e c)

  pub item-typed : WellTyped b → WellTyped (item_of a b)
  item-typed w = (item-typing a names bs x (node_type b) e c ∙ ap Ok (sym item-type), tt, (w, tt))

  pub item-value : (v w : Datum) → value b w ≡ joined bs v → value (item_of a b) w ≡ value x v
  item-value v w h = rw (e, h) (named-value a names bs x v c)
