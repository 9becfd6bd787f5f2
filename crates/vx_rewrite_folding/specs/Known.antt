-- What is known of a node by its function, as the tree that stands for it.
use Rattle.std.specs.Prelude.{Bool, true, false, IsTrue}
use Rattle.vx_value.specs.Fits.{Fits}
use Rattle.vx_value.specs.Types.{null, utf8, is_nullable}
use Rattle.vx_value.specs.Views.{type_of}
use Rattle.vx_fn.specs.Functions.{Function, case_when}
use Rattle.vx_tree.specs.Trees.{BoundTree}
use Rattle.vx_tree.specs.Views.{bound_of}
use Rattle.vx_rewrite_core.specs.Nodes.{literal_node}
use Rattle.vx_rewrite_rule_laws.specs.Folding.{truth_literal, begins_so, null_test}
use Rattle.vx_rewrite_folding.specs.declared.known.BeginningTest.{BeginningTest}
use Rattle.vx_rewrite_folding.specs.declared.known.Known.{Known}
use Rattle.vx_rewrite_folding.specs.declared.known.Known.TheVariants.{Tree, Truth, Null, NullTest, Beginning}

-- the test of a beginning
abbrev pub test_of : BeginningTest → BoundTree
test_of b = begins_so (type_of b.dtype.now) (bound_of b.input.now) (type_of b.prefix_dtype.now) b.prefix.now

-- a tree below the node, the literal of a truth value, the null literal of a type, a test for null, or a test of a beginning
abbrev pub tree_of : Known → BoundTree
tree_of (Tree b) = bound_of b.now
tree_of (Truth b) = truth_literal b
tree_of (Null t) = literal_node (type_of t.now) null
tree_of (NullTest b x) = null_test b (bound_of x.now)
tree_of (Beginning b) = test_of b

-- where null is known, its type has one, and where a beginning is, it is one of its type
abbrev pub IsMade : Known → Type 0
IsMade (Null t) = IsTrue (is_nullable (type_of t.now))
IsMade (Beginning b) = Fits (utf8 b.prefix.now) (type_of b.prefix_dtype.now)
IsMade _ = Unit {0}

-- whether the function is a CASE
abbrev pub is_case : Function → Bool
is_case (case_when pairs has_else) = true
is_case _ = false
