-- The standard rules: what is given at a node.
use Rattle.std.specs.Prelude.{◌≡◌, ◌≢◌, Bool, true, false, ◌&&◌, ◌||◌, not, List, [], ◌∷◌, Option, Some, None, if◌then◌else◌, IsTrue, IsFalse}
use Rattle.std.specs.Str.{bytes_eq}
use Rattle.vx_value.specs.Types.{Name, LogicalType, ty, struct, Fields, no_field, field, Datum, null, bool, is_nullable, with_nullability, is_null_datum}
use Rattle.vx_fn.specs.Functions.{case_when, get_item, pack, select, fill_null, zip, is_null, is_not_null, mask, included, is_atomic, truth_type}
use Rattle.vx_fn.specs.declared.options.FieldSelection.{FieldSelection}
use Rattle.vx_tree.specs.Trees.{BoundTree, node, BoundTrees, no_bound, bound, node_type}
use Rattle.vx_rewrite_core.specs.Nodes.{one_bound, two_bounds, three_bounds, literal_node, cast_node}

-- x, and where it is null what is beside it
abbrev pub fill_node : BoundTree → BoundTree → BoundTree
fill_node x y = node (with_nullability (is_nullable (node_type y)) (node_type x)) fill_null (two_bounds x y)

-- x under a mask that is true in every row
abbrev pub mask_node : BoundTree → BoundTree
mask_node x = node (with_nullability true (node_type x)) mask (two_bounds x (literal_node (truth_type false) (bool true)))

-- a struct without fields
abbrev pub empty_pack : Bool → BoundTree
empty_pack n = node (ty (struct no_field) n) (pack [] n) no_bound

-- the pack of the fields under these names, and a selection of fields of a tree
abbrev pub pack_node : Fields → Bool → List Name → BoundTrees → BoundTree
pack_node fs n names xs = node (ty (struct fs) n) (pack names n) xs

abbrev pub select_node : LogicalType → FieldSelection → BoundTree → BoundTree
select_node t selection x = node t (select selection) (one_bound x)

-- the first child of that name, each child beside its name
abbrev pub child_named : Name → List Name → BoundTrees → Option BoundTree
child_named a (b ∷ names) (bound x xs) = if bytes_eq a b then Some x else child_named a names xs
child_named a _ _ = None

-- the children with another in front, if there is one
abbrev pub put_child : Option BoundTree → BoundTrees → BoundTrees
put_child None xs = xs
put_child (Some x) xs = bound x xs

-- for each of the wanted names the first child of that name
abbrev pub children_named : List Name → List Name → BoundTrees → BoundTrees
children_named [] names xs = no_bound
children_named (a ∷ wanted) names xs = put_child (child_named a names xs) (children_named wanted names xs)

-- whether the type of each field is nullable
abbrev pub are_nullable : Fields → Bool
are_nullable no_field = true
are_nullable (field a t fs) = is_nullable t && are_nullable fs

-- a CASE that is the literal c of type t where x is null, and x elsewhere
pub data IsCoalesce (x : BoundTree) (t : LogicalType) (c : Datum) : BoundTree → Type 0 where
  null_first : {u p : LogicalType} → IsCoalesce x t c (node u (case_when 1 true) (three_bounds (node p is_null (one_bound x)) (literal_node t c) x))
  null_last : {u p : LogicalType} → IsCoalesce x t c (node u (case_when 1 true) (three_bounds (node p is_not_null (one_bound x)) x (literal_node t c)))

-- the rules, each as one case or as one for each of its two shapes
pub data RuleAt : BoundTree → BoundTree → Type 0 where
  -- a fill of what is never null is its input
  fill_of_not_null : {t : LogicalType} {x y : BoundTree} → IsFalse (is_nullable (node_type x)) → RuleAt (node t fill_null (two_bounds x y)) x
  -- a CASE that is null where x is null, and x elsewhere, is x
  coalesce_to_null : {b x : BoundTree} {t : LogicalType} → IsCoalesce x t null b → RuleAt b x
  -- a CASE that is another literal where x is null, and x elsewhere, is a fill, if x can be filled
  coalesce : {b x : BoundTree} {t : LogicalType} {c : Datum} → IsCoalesce x t c b → IsFalse (is_null_datum c) → IsTrue (is_atomic (node_type x)) → RuleAt b (fill_node x (literal_node t c))
  -- a field of a pack is the first child of its name, under a mask where the pack is nullable
  item_of_pack : {t p : LogicalType} {a : Name} {names : List Name} {xs : BoundTrees} {x : BoundTree} → child_named a names xs ≡ Some x → RuleAt (node t (get_item a) (one_bound (node p (pack names false) xs))) x
  item_of_nullable_pack : {t p : LogicalType} {a : Name} {names : List Name} {xs : BoundTrees} {x : BoundTree} → child_named a names xs ≡ Some x → RuleAt (node t (get_item a) (one_bound (node p (pack names true) xs))) (mask_node x)
  -- a choice by a literal that isn't null is the chosen one, cast where its type is another
  zip_chosen : {t m : LogicalType} {c : Bool} {x y : BoundTree} → node_type (if c then x else y) ≡ t → RuleAt (node t zip (three_bounds x y (literal_node m (bool c)))) (if c then x else y)
  zip_cast : {t m : LogicalType} {c : Bool} {x y : BoundTree} → node_type (if c then x else y) ≢ t → RuleAt (node t zip (three_bounds x y (literal_node m (bool c)))) (cast_node t (if c then x else y))
  -- no field of what is never null, or of a pack, is an empty pack as nullable as that
  select_none : {t : LogicalType} {selection : FieldSelection} {x : BoundTree} {fs : Fields} →
      node_type x ≡ ty (struct fs) false →
      included selection fs ≡ [] →
      RuleAt (select_node t selection x) (empty_pack false)
  select_none_of_pack : {t : LogicalType} {selection : FieldSelection} {fs : Fields} {n : Bool} {names : List Name} {xs : BoundTrees} →
      included selection fs ≡ [] →
      RuleAt (select_node t selection (pack_node fs n names xs)) (empty_pack n)
  -- some fields of a pack are the pack of the first children of their names, if the pack isn't nullable or the type of each is
  select_of_pack : {gs : Fields} {selection : FieldSelection} {fs : Fields} {n : Bool} {names : List Name} {xs : BoundTrees} →
      included selection fs ≢ [] →
      IsTrue (not n || are_nullable gs) →
      RuleAt (select_node (ty (struct gs) n) selection (pack_node fs n names xs)) (pack_node gs n (included selection fs) (children_named (included selection fs) names xs))
