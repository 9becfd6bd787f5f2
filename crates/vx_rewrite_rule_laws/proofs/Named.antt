-- The first child of a name.
use Rattle.std.proofs.Common.{◌≡◌, inl, inr, List, [], ◌∷◌, ap, Bool, true, false, ◌⊎◌}
use Rattle.std.specs.Prelude.{Some, if◌then◌else◌}
use Rattle.std.specs.Str.{bytes_eq}
use Rattle.vx_value.specs.Types.{Name, Datum}
use Rattle.vx_value.specs.Fields.{field_type, field_value, fields_named, data_of}
use Rattle.vx_tree.specs.Meaning.{value, values}
use Rattle.vx_tree.specs.Trees.{BoundTree, BoundTrees, no_bound, bound, node_type, node_types}
use Rattle.vx_rewrite_rule_laws.specs.Rules.{child_named}
use Rattle.vx_rewrite_core.proofs.Children.{IsChild}

pub named-child : (a : Name) (names : List Name) (xs : BoundTrees) (x : BoundTree) → child_named a names xs ≡ Some x → IsChild x xs
named-child a [] no_bound x e = cc
named-child a [] (bound y ys) x e = cc
named-child a (b ∷ names) no_bound x e = cc
named-child a (b ∷ names) (bound y ys) x e = go (bytes_eq a b) e (named-child a names ys x)
  where
    go : (c : Bool) → (if c then Some y else child_named a names ys) ≡ Some x → (child_named a names ys ≡ Some x → IsChild x ys) → (x ≡ y) ⊎ IsChild x ys
    go true e k = let q : x ≡ y = cc in inl q
    go false e k = inr (k e)

pub named-type : (a : Name) (names : List Name) (xs : BoundTrees) (x : BoundTree) → child_named a names xs ≡ Some x → field_type a (fields_named names (node_types xs)) ≡ Some (node_type x)
named-type a [] no_bound x e = cc
named-type a [] (bound y ys) x e = cc
named-type a (b ∷ names) no_bound x e = cc
named-type a (b ∷ names) (bound y ys) x e = go (bytes_eq a b) e (named-type a names ys x)
  where
    go : (c : Bool) → (if c then Some y else child_named a names ys) ≡ Some x → (child_named a names ys ≡ Some x → field_type a (fields_named names (node_types ys)) ≡ Some (node_type x)) → (if c then Some (node_type y) else field_type a (fields_named names (node_types ys))) ≡ Some (node_type x)
    go true e k = let q : y ≡ x = cc in ap (λ z. Some (node_type z)) q
    go false e k = k e

pub named-value : (a : Name) (names : List Name) (xs : BoundTrees) (x : BoundTree) (v : Datum) → child_named a names xs ≡ Some x → field_value a (fields_named names (node_types xs)) (data_of (values xs v)) ≡ value x v
named-value a [] no_bound x v e = cc
named-value a [] (bound y ys) x v e = cc
named-value a (b ∷ names) no_bound x v e = cc
named-value a (b ∷ names) (bound y ys) x v e = go (bytes_eq a b) e (named-value a names ys x v)
  where
    go : (c : Bool) → (if c then Some y else child_named a names ys) ≡ Some x → (child_named a names ys ≡ Some x → field_value a (fields_named names (node_types ys)) (data_of (values ys v)) ≡ value x v) → (if c then value y v else field_value a (fields_named names (node_types ys)) (data_of (values ys v))) ≡ value x v
    go true e k = let q : y ≡ x = cc in ap (λ z. value z v) q
    go false e k = k e
