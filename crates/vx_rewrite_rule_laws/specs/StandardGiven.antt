-- The rules as a function: what they give at a well-typed node, if anything.
use Rattle.std.specs.Prelude.{ℕ, Bool, true, false, ◌&&◌, ◌||◌, ◌==◌, not, [], Option, Some, None, option_and_then, if◌then◌else◌}
use Rattle.std.specs.Option.{option_map}
use Rattle.vx_value.specs.Fields.{field_count}
use Rattle.vx_value.specs.Types.{struct_fields, Name, LogicalType, Fields, Datum, bool, is_nullable, is_null_datum}
use Rattle.vx_fn.specs.Functions.{case_when, get_item, pack, select, fill_null, zip, is_null, is_not_null, is_atomic}
use Rattle.vx_fn.specs.Selections.{kept_names}
use Rattle.vx_fn.specs.declared.options.FieldSelection.{FieldSelection}
use Rattle.vx_tree.specs.Trees.{BoundTree, node, no_bound, node_type}
use Rattle.vx_tree.specs.Equality.{equal_bound}
use Rattle.vx_rewrite_core.specs.Nodes.{only_one, two_of, three_of, only_if, literal_value, as_type}
use Rattle.vx_rewrite_rule_laws.specs.Rules.{fill_node, mask_node, child_named, children_named, are_nullable}

-- a fill of what is never null is its input
abbrev pub fill_given : BoundTree → Option BoundTree
fill_given x = only_if (not (is_nullable (node_type x))) x

-- what a test for null looks at, where in the two it is null, and where not
pub record NullTest : Type 0 where
  pub tested : BoundTree
  pub if_null : BoundTree
  pub if_not : BoundTree

-- the condition and the two values of a CASE as a test for null
abbrev pub null_test : BoundTree → BoundTree → BoundTree → Option NullTest
null_test (node p is_null xs) y z = option_map (λ x. record { tested = x; if_null = y; if_not = z }) (only_one xs)
null_test (node p is_not_null xs) y z = option_map (λ x. record { tested = x; if_null = z; if_not = y }) (only_one xs)
null_test _ y z = None

-- x, where its null is replaced by a null, or by another literal c that stands in y
abbrev pub replaced_null : BoundTree → BoundTree → Datum → Option BoundTree
replaced_null x y c = if is_null_datum c then Some x else only_if (is_atomic (node_type x)) (fill_node x y)

-- a test for null with a literal where it is null, and elsewhere what it looks at
abbrev pub coalesce_given : NullTest → Option BoundTree
coalesce_given t = option_and_then (λ c. if equal_bound t.tested t.if_not then replaced_null t.tested t.if_null c else None) (literal_value t.if_null)

-- a CASE of three children: of one pair, and an ELSE
abbrev pub case_given : ℕ → Bool → BoundTree → BoundTree → BoundTree → Option BoundTree
case_given pairs has_else p y z = if pairs == 1 && has_else then option_and_then coalesce_given (null_test p y z) else None

-- a field of a pack is the first child of its name, under a mask where the pack is nullable
abbrev pub item_given : Name → BoundTree → Option BoundTree
item_given a (node p (pack names n) xs) = option_map (λ x. if n then mask_node x else x) (child_named a names xs)
item_given a _ = None

-- the branch that a truth value chooses, as one of the type
abbrev pub chosen : LogicalType → BoundTree → BoundTree → Datum → Option BoundTree
chosen t x y (bool c) = Some (as_type t (if c then x else y))
chosen t x y _ = None

-- a choice by a literal
abbrev pub zip_given : LogicalType → BoundTree → BoundTree → BoundTree → Option BoundTree
zip_given t x y m = option_and_then (chosen t x y) (literal_value m)

-- whether the tree is a pack
abbrev pub is_pack : BoundTree → Bool
is_pack (node t (pack names n) xs) = true
is_pack _ = false

-- a pack of no field, as one of the type, of what is never null or a pack itself
abbrev pub none_given : LogicalType → BoundTree → Option BoundTree
none_given t x = only_if (not (is_nullable (node_type x)) || is_pack x) (node t (pack [] (is_nullable t)) no_bound)

-- the pack of the first children of the names that are kept of a pack, whose fields then are gs
abbrev pub some_given : LogicalType → FieldSelection → Fields → BoundTree → Option BoundTree
some_given t selection gs (node p (pack names n) xs) =
    only_if (not n || are_nullable gs) (node t (pack (kept_names selection names) n) (children_named (kept_names selection names) names xs))
some_given t selection gs _ = None

-- the fields gs of a selection: none, or some
abbrev pub fields_given : LogicalType → FieldSelection → BoundTree → Fields → Option BoundTree
fields_given t selection x gs = if field_count gs == 0 then none_given t x else some_given t selection gs x

-- a selection of the type
abbrev pub select_given : LogicalType → FieldSelection → BoundTree → Option BoundTree
select_given t selection x = option_and_then (fields_given t selection x) (struct_fields t)

-- what is given at a node
abbrev pub given_at : BoundTree → Option BoundTree
given_at (node t fill_null xs) = option_and_then (λ p. fill_given p.0) (two_of xs)
given_at (node t (case_when pairs has_else) xs) = option_and_then (λ p. case_given pairs has_else p.0 p.1 p.2) (three_of xs)
given_at (node t (get_item a) xs) = option_and_then (item_given a) (only_one xs)
given_at (node t zip xs) = option_and_then (λ p. zip_given t p.0 p.1 p.2) (three_of xs)
given_at (node t (select selection) xs) = option_and_then (select_given t selection) (only_one xs)
given_at _ = None
