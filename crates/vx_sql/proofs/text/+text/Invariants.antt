use Rattle.std.proofs.Common.{◌≡◌, ℕ, ◌+◌, ◌*◌, List, ◌++◌, drop}
use Rattle.std.specs.Fmt.{HasWritten, IsPlainFormatter}
use Rattle.vx_dtype.proofs.Commas.{after_commas}
use Rattle.vx_fn.specs.Texts.{pairs_sql}
use Rattle.vx_tree.specs.Nodes.{size_of, sizes_of}
use Rattle.vx_tree.specs.Trees.{unbound, unbound_each}
use Rattle.vx_tree.specs.Views.{bound_of, bounds_of}
use Rattle.vx_sql.specs.SqlTexts.{sqls_in, fields_sql}
use Rattle.vx_sql.proofs.text.+text.Given as goal

abbrev pub decreases-write_sql : goal.decreases-write_sql
decreases-write_sql g l = 16 * size_of (unbound (bound_of l.b.now))

abbrev pub decreases-write_own : goal.decreases-write_own
decreases-write_own g l = 16 * sizes_of (unbound_each (bounds_of l.children.nodes.now)) + 8

abbrev pub decreases-write_child : goal.decreases-write_child
decreases-write_child g l = 16 * sizes_of (unbound_each (bounds_of l.children.nodes.now)) + 1

abbrev pub decreases-choices::write_case : goal.decreases-choices::write_case
decreases-choices::write_case g l = 16 * sizes_of (unbound_each (bounds_of l.children.nodes.now)) + 5

abbrev pub decreases-choices::write_branches : goal.decreases-choices::write_branches
decreases-choices::write_branches g l = 16 * sizes_of (unbound_each (bounds_of l.children.nodes.now)) + 3

abbrev pub decreases-choices::write_pair : goal.decreases-choices::write_pair
decreases-choices::write_pair g l = 16 * sizes_of (unbound_each (bounds_of l.children.nodes.now)) + 2

abbrev pub decreases-choices::write_zip : goal.decreases-choices::write_zip
decreases-choices::write_zip g l = 16 * sizes_of (unbound_each (bounds_of l.children.nodes.now)) + 5

abbrev pub decreases-choices::write_mask : goal.decreases-choices::write_mask
decreases-choices::write_mask g l = 16 * sizes_of (unbound_each (bounds_of l.children.nodes.now)) + 5

abbrev pub decreases-choices::write_fill : goal.decreases-choices::write_fill
decreases-choices::write_fill g l = 16 * sizes_of (unbound_each (bounds_of l.children.nodes.now)) + 5

abbrev pub decreases-operators::write_binary : goal.decreases-operators::write_binary
decreases-operators::write_binary g l = 16 * sizes_of (unbound_each (bounds_of l.operands.nodes.now)) + 7

abbrev pub decreases-operators::write_or_equal : goal.decreases-operators::write_or_equal
decreases-operators::write_or_equal g l = 16 * sizes_of (unbound_each (bounds_of l.operands.nodes.now)) + 6

abbrev pub decreases-operators::write_turned : goal.decreases-operators::write_turned
decreases-operators::write_turned g l = 16 * sizes_of (unbound_each (bounds_of l.children.nodes.now)) + 4

abbrev pub decreases-operators::write_comparison : goal.decreases-operators::write_comparison
decreases-operators::write_comparison g l = 16 * sizes_of (unbound_each (bounds_of l.children.nodes.now)) + 3

abbrev pub decreases-operators::write_logic : goal.decreases-operators::write_logic
decreases-operators::write_logic g l = 16 * sizes_of (unbound_each (bounds_of l.operands.nodes.now)) + 4

abbrev pub decreases-operators::write_least : goal.decreases-operators::write_least
decreases-operators::write_least g l = 16 * sizes_of (unbound_each (bounds_of l.operands.nodes.now)) + 3

abbrev pub decreases-operators::write_operator : goal.decreases-operators::write_operator
decreases-operators::write_operator g l = 16 * sizes_of (unbound_each (bounds_of l.operands.nodes.now)) + 3

abbrev pub decreases-operators::write_least_below : goal.decreases-operators::write_least_below
decreases-operators::write_least_below g l = 16 * sizes_of (unbound_each (bounds_of l.children.nodes.now)) + 6

abbrev pub decreases-operators::write_computed : goal.decreases-operators::write_computed
decreases-operators::write_computed g l = 16 * sizes_of (unbound_each (bounds_of l.operands.nodes.now)) + 6

abbrev pub decreases-operators::write_arithmetic : goal.decreases-operators::write_arithmetic
decreases-operators::write_arithmetic g l = 16 * sizes_of (unbound_each (bounds_of l.operands.nodes.now)) + 5

abbrev pub decreases-operators::write_second : goal.decreases-operators::write_second
decreases-operators::write_second g l = 16 * sizes_of (unbound_each (bounds_of l.operands.nodes.now)) + 4

abbrev pub decreases-operators::write_not : goal.decreases-operators::write_not
decreases-operators::write_not g l = 16 * sizes_of (unbound_each (bounds_of l.children.nodes.now)) + 5

abbrev pub decreases-operators::write_between : goal.decreases-operators::write_between
decreases-operators::write_between g l = 16 * sizes_of (unbound_each (bounds_of l.children.nodes.now)) + 7

abbrev pub decreases-operators::write_from_to : goal.decreases-operators::write_from_to
decreases-operators::write_from_to g l = 16 * sizes_of (unbound_each (bounds_of l.children.nodes.now)) + 4

abbrev pub decreases-operators::write_range : goal.decreases-operators::write_range
decreases-operators::write_range g l = 16 * sizes_of (unbound_each (bounds_of l.children.nodes.now)) + 3

abbrev pub decreases-operators::write_both : goal.decreases-operators::write_both
decreases-operators::write_both g l = 16 * sizes_of (unbound_each (bounds_of l.children.nodes.now)) + 6

abbrev pub decreases-choices::write_choice : goal.decreases-choices::write_choice
decreases-choices::write_choice g l = 16 * sizes_of (unbound_each (bounds_of l.children.nodes.now)) + 3

abbrev pub decreases-operators::write_below : goal.decreases-operators::write_below
decreases-operators::write_below g l = 16 * sizes_of (unbound_each (bounds_of l.children.nodes.now)) + 5

abbrev pub decreases-operators::write_compared : goal.decreases-operators::write_compared
decreases-operators::write_compared g l = 16 * sizes_of (unbound_each (bounds_of l.children.nodes.now)) + 2

abbrev pub decreases-structs::write_item : goal.decreases-structs::write_item
decreases-structs::write_item g l = 16 * sizes_of (unbound_each (bounds_of l.children.nodes.now)) + 5

abbrev pub decreases-structs::write_pack : goal.decreases-structs::write_pack
decreases-structs::write_pack g l = 16 * sizes_of (unbound_each (bounds_of l.children.nodes.now)) + 5

abbrev pub decreases-structs::write_fields : goal.decreases-structs::write_fields
decreases-structs::write_fields g l = 16 * sizes_of (unbound_each (bounds_of l.children.nodes.now)) + 3

abbrev pub decreases-structs::write_field : goal.decreases-structs::write_field
decreases-structs::write_field g l = 16 * sizes_of (unbound_each (bounds_of l.children.nodes.now)) + 2

abbrev pub decreases-tests::write_null_test : goal.decreases-tests::write_null_test
decreases-tests::write_null_test g l = 16 * sizes_of (unbound_each (bounds_of l.children.nodes.now)) + 5

abbrev pub decreases-tests::write_like : goal.decreases-tests::write_like
decreases-tests::write_like g l = 16 * sizes_of (unbound_each (bounds_of l.children.nodes.now)) + 5

abbrev pub decreases-texts::write_beginning : goal.decreases-texts::write_beginning
decreases-texts::write_beginning g l = 16 * sizes_of (unbound_each (bounds_of l.children.nodes.now)) + 5

abbrev pub decreases-texts::write_length : goal.decreases-texts::write_length
decreases-texts::write_length g l = 16 * sizes_of (unbound_each (bounds_of l.children.nodes.now)) + 5

-- what is written, and what is left to write, is the text of all pairs
abbrev pub invariant-choices::write_branches-loop-pair : goal.invariant-choices::write_branches-loop-pair
invariant-choices::write_branches-loop-pair g l =
    IsPlainFormatter l.initial.f
    → (done : List ℕ) × HasWritten g.W.Write.write_str_gives l.initial.f done l.f
    × (done ++ pairs_sql (drop (2 * l.pair) (sqls_in l.children)) ≡ pairs_sql (sqls_in l.children))

-- the same of fields
abbrev pub invariant-structs::write_fields-loop-index : goal.invariant-structs::write_fields-loop-index
invariant-structs::write_fields-loop-index g l =
    IsPlainFormatter l.initial.f
    → (done : List ℕ) × HasWritten g.W.Write.write_str_gives l.initial.f done l.f
    × (done ++ after_commas (drop l.index (fields_sql l.children.dialect l.names (sqls_in l.children))) ≡ after_commas (drop 1 (fields_sql l.children.dialect l.names (sqls_in l.children))))

abbrev pub decreases-lists::write_membership : goal.decreases-lists::write_membership
decreases-lists::write_membership g l = 16 * sizes_of (unbound_each (bounds_of l.children.nodes.now)) + 6

abbrev pub decreases-lists::write_among : goal.decreases-lists::write_among
decreases-lists::write_among g l = 16 * sizes_of (unbound_each (bounds_of l.children.nodes.now)) + 5

abbrev pub decreases-lists::write_in_none : goal.decreases-lists::write_in_none
decreases-lists::write_in_none g l = 16 * sizes_of (unbound_each (bounds_of l.children.nodes.now)) + 3

abbrev pub decreases-lists::write_in_nulls : goal.decreases-lists::write_in_nulls
decreases-lists::write_in_nulls g l = 16 * sizes_of (unbound_each (bounds_of l.children.nodes.now)) + 4

abbrev pub decreases-lists::write_null_in : goal.decreases-lists::write_null_in
decreases-lists::write_null_in g l = 16 * sizes_of (unbound_each (bounds_of l.children.nodes.now)) + 3

abbrev pub decreases-lists::write_in : goal.decreases-lists::write_in
decreases-lists::write_in g l = 16 * sizes_of (unbound_each (bounds_of l.children.nodes.now)) + 3

abbrev pub decreases-lists::write_sought : goal.decreases-lists::write_sought
decreases-lists::write_sought g l = 16 * sizes_of (unbound_each (bounds_of l.children.nodes.now)) + 2
