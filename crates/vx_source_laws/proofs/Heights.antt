-- A tree's text needs as much nesting as the tree is high, and little more.
use Rattle.std.proofs.Common.{ℕ, ◌+◌, ◌≤◌, max, Bool, true, false, arith}
use Rattle.std.specs.Prelude.{◌==◌, ◌&&◌, if◌then◌else◌}
use Rattle.vx_fn.specs.Functions.{Function, case_when, get_item, literal, pack, select, fill_null, zip, binary, logical_not, between, like, is_null, is_not_null, mask, cast, starts_with, byte_length, list_contains, arity_of}
use Rattle.vx_tree.specs.Nodes.{count_of}
use Rattle.vx_tree.specs.Trees.{Tree, root, call, Trees, no_tree, tree}
use Rattle.vx_source_writer.specs.SourceTexts.{is_shown}
use Rattle.vx_source_grammar.specs.Nodes.{height_of, heights_of}
use Rattle.vx_source_laws.specs.Nesting.{options_nesting, shown_nesting, call_nesting, nesting, nestings, own_brackets, most_brackets}

shown_below : (f : Function) (h n : ℕ) → h ≤ n → h + 1 ≤ shown_nesting f h n
shown_below (case_when pairs has_else) h n l = omega arith
shown_below (get_item a) h n l = omega arith
shown_below (literal t v) h n l = omega arith
shown_below (pack names m) h n l = omega arith
shown_below (select selection) h n l = omega arith
shown_below fill_null h n l = omega arith
shown_below zip h n l = omega arith
shown_below (binary op) h n l = omega arith
shown_below logical_not h n l = omega arith
shown_below (between lower_strict upper_strict) h n l = omega arith
shown_below (like negated case_insensitive) h n l = omega arith
shown_below is_null h n l = omega arith
shown_below is_not_null h n l = omega arith
shown_below mask h n l = omega arith
shown_below starts_with h n l = omega arith
shown_below byte_length h n l = omega arith
shown_below list_contains h n l = omega arith
shown_below (cast t) h n l = omega arith

node_below : (b : Bool) (f : Function) (h n : ℕ) → h ≤ n → h + 1 ≤ (if b then shown_nesting f h n else call_nesting f n)
node_below true f h n l = shown_below f h n l
node_below false f h n l = omega arith

mutual
  pub height_below : (e : Tree) → height_of e ≤ nesting e
  height_below root = omega arith
  height_below (call f es) = node_below (is_shown f && arity_of f == count_of es) f (heights_of es) (nestings es) (heights_below es)

  pub heights_below : (es : Trees) → heights_of es ≤ nestings es
  heights_below no_tree = omega arith
  heights_below (tree e es) = let p = height_below e in let q = heights_below es in omega arith

shown_above : (f : Function) (h n b : ℕ) → n ≤ h + b + 1 → shown_nesting f h n ≤ h + max (options_nesting f) b + 2
shown_above (case_when pairs has_else) h n b l = omega arith
shown_above (get_item a) h n b l = omega arith
shown_above (literal t v) h n b l = omega arith
shown_above (pack names m) h n b l = omega arith
shown_above (select selection) h n b l = omega arith
shown_above fill_null h n b l = omega arith
shown_above zip h n b l = omega arith
shown_above (binary op) h n b l = omega arith
shown_above logical_not h n b l = omega arith
shown_above (between lower_strict upper_strict) h n b l = omega arith
shown_above (like negated case_insensitive) h n b l = omega arith
shown_above is_null h n b l = omega arith
shown_above is_not_null h n b l = omega arith
shown_above mask h n b l = omega arith
shown_above starts_with h n b l = omega arith
shown_above byte_length h n b l = omega arith
shown_above list_contains h n b l = omega arith
shown_above (cast t) h n b l = omega arith

node_above : (c : Bool) (f : Function) (h n b : ℕ) → n ≤ h + b + 1 → (if c then shown_nesting f h n else call_nesting f n) ≤ h + max (options_nesting f) b + 2
node_above true f h n b l = shown_above f h n b l
node_above false f h n b l = omega arith

mutual
  pub height_above : (e : Tree) → nesting e ≤ height_of e + own_brackets e + 1
  height_above root = omega arith
  height_above (call f es) = let node = node_above (is_shown f && arity_of f == count_of es) f (heights_of es) (nestings es) (most_brackets es) (heights_above es) in omega arith

  heights_above : (es : Trees) → nestings es ≤ heights_of es + most_brackets es + 1
  heights_above no_tree = omega arith
  heights_above (tree e es) = let p = height_above e in let q = heights_above es in omega arith
