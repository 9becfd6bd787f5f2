-- How much nesting a reader has to allow for the source text of a tree.
use Rattle.std.specs.Prelude.{ℕ, ◌+◌, ◌==◌, ◌&&◌, max, if◌then◌else◌}
use Rattle.vx_fn.specs.Functions.{Function, get_item, literal, select, binary, between, like, cast, arity_of}
use Rattle.vx_tree.specs.Nodes.{count_of}
use Rattle.vx_tree.specs.Trees.{Tree, root, call, Trees, no_tree, tree}
use Rattle.vx_source_types.specs.TypePrintable.{type_nesting}
use Rattle.vx_source_types.specs.ScalarPrintable.{value_nesting}
use Rattle.vx_source_writer.specs.SourceTexts.{is_shown}
use Rattle.vx_source_grammar.specs.Nodes.{heights_of}

-- the brackets in a function's options, which are those of a literal's value and type, and those of a cast's type
abbrev pub options_nesting : Function → ℕ
options_nesting (literal t v) = max (value_nesting v) (type_nesting t)
options_nesting (cast t) = type_nesting t
options_nesting f = 0

-- a call has a bracket around its children and its options
abbrev pub call_nesting : Function → ℕ → ℕ
call_nesting f inner = max inner (options_nesting f) + 1

-- what a node needs whose text shows its function, over children that are so high and need so much: a literal, a field and a
-- selection have no bracket of their own, and what an operator joins is a node between parentheses
abbrev pub shown_nesting : Function → (height inner : ℕ) → ℕ
shown_nesting (literal t v) height inner = max (height + 1) (options_nesting (literal t v))
shown_nesting (get_item a) height inner = max (height + 1) inner
shown_nesting (select selection) height inner = max (height + 1) inner
shown_nesting (binary op) height inner = max (height + 1) inner + 1
shown_nesting (between lower_strict upper_strict) height inner = max (height + 1) inner + 1
shown_nesting (like negated case_insensitive) height inner = max (height + 1) inner + 1
shown_nesting f height inner = call_nesting f inner

-- the nesting of a tree's text, and the greatest of some trees' texts
abbrev mutual
  pub nesting : Tree → ℕ
  nesting root = 0
  nesting (call f es) = if is_shown f && arity_of f == count_of es then shown_nesting f (heights_of es) (nestings es) else call_nesting f (nestings es)

  pub nestings : Trees → ℕ
  nestings no_tree = 0
  nestings (tree e es) = max (nesting e) (nestings es)

-- the brackets that values and types alone have at most
abbrev mutual
  pub own_brackets : Tree → ℕ
  own_brackets root = 0
  own_brackets (call f es) = max (options_nesting f) (most_brackets es)

  pub most_brackets : Trees → ℕ
  most_brackets no_tree = 0
  most_brackets (tree e es) = max (own_brackets e) (most_brackets es)
