-- The tree text of a tree: a line for each node, its children's lines below it.
use Rattle.std.specs.Prelude.{ℕ, ◌+◌, ◌==◌, Bool, true, false, List, [], ◌∷◌, ◌++◌, map, codes, if◌then◌else◌}
use Rattle.std.specs.Fmt.{decimal}
use Rattle.vx_fn.specs.ChildNames.{child_name_of}
use Rattle.vx_fn.specs.Functions.{Function, arity_of}
use Rattle.vx_fn.specs.Texts.{function_text}
use Rattle.vx_tree.specs.Nodes.{count_of}
use Rattle.vx_tree.specs.Trees.{Tree, root, call, Trees, no_tree, tree}
use Rattle.vx_tree.specs.declared.tree_text.Prefix.{Prefix}
use Rattle.vx_tree.specs.declared.tree_text.Prefix.TheVariants.{Empty, Below'}

-- the sign before a child's name: `├── `, and `└── ` before that of the last child
abbrev pub branch : Bool → List ℕ
branch false = 226 ∷ 148 ∷ 156 ∷ 226 ∷ 148 ∷ 128 ∷ 226 ∷ 148 ∷ 128 ∷ 32 ∷ []
branch true = 226 ∷ 148 ∷ 148 ∷ 226 ∷ 148 ∷ 128 ∷ 226 ∷ 148 ∷ 128 ∷ 32 ∷ []

-- what stands before the lines below a child: `│   `, and four spaces below the last child
abbrev pub bar : Bool → List ℕ
bar false = 226 ∷ 148 ∷ 130 ∷ 32 ∷ 32 ∷ 32 ∷ []
bar true = 32 ∷ 32 ∷ 32 ∷ 32 ∷ []

-- what the child at an index is called, of so many: by its name where they are as many as the arity, else by the index
abbrev pub called : Function → ℕ → ℕ → List ℕ
called f n i = if n == arity_of f then child_name_of f i else decimal i

-- a node's own line: the text of its function, or of the scope root
abbrev pub node_line : Tree → List ℕ
node_line root = codes "vortex.root()"
node_line (call f es) = function_text f

-- whether no child follows
abbrev pub is_last : Trees → Bool
is_last no_tree = true
is_last (tree e es) = false

-- the lines below a node, and those of its children from the one at an index on, each called by `name` of its index
abbrev mutual
  pub lines_below : Tree → List (List ℕ)
  lines_below root = []
  lines_below (call f es) = child_lines (called f (count_of es)) 0 es

  pub child_lines : (ℕ → List ℕ) → ℕ → Trees → List (List ℕ)
  child_lines name i no_tree = []
  child_lines name i (tree e es) =
      (branch (is_last es) ++ (name i ++ (codes ": " ++ node_line e)))
      ∷ (map (λ line. bar (is_last es) ++ line) (lines_below e) ++ child_lines name (i + 1) es)

-- the lines, each on a new line behind the prefix
abbrev pub on_new_lines : List ℕ → List (List ℕ) → List ℕ
on_new_lines prefix [] = []
on_new_lines prefix (line ∷ lines) = codes "\n" ++ (prefix ++ (line ++ on_new_lines prefix lines))

-- the node's line, and the lines below it behind the prefix
abbrev pub text_behind : List ℕ → Tree → List ℕ
text_behind prefix e = node_line e ++ on_new_lines prefix (lines_below e)

-- the tree text of a tree
abbrev pub tree_text : Tree → List ℕ
tree_text e = text_behind [] e

-- what a prefix on the stack stands for: its bars from the outermost in
abbrev pub prefix_of : Prefix → List ℕ
prefix_of Empty = []
prefix_of (Below' last p above) = prefix_of above ++ bar last
