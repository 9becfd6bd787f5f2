-- The digest of a bound tree: a number that equal trees share, made of a node's function and its children's digests.
use Rattle.std.specs.Prelude.{ℕ, List, [], ◌∷◌, fold}
use Rattle.std.specs.Hash as fed
use Rattle.std.specs.Hash.FoldHasher.{initial, write, finish}
use Rattle.std.specs.declared.hash.FoldHasher.{FoldHasher}
use Rattle.vx_fn.specs.Functions.{Function}
use Rattle.vx_fn.specs.Equality.{function_fed}
use Rattle.vx_tree.specs.Trees.{BoundTree, scope, node, BoundTrees, no_bound, bound}

-- the hasher after the function of a node
unfoldable pub begun : Function → FoldHasher
begun f = fold write initial (function_fed f)

-- the hasher after one more child's digest
unfoldable pub with_digest : FoldHasher → ℕ → FoldHasher
with_digest h d = fold write h (fed.u64 d)

-- the digest of a node, from its function and its children's digests. Its type is left out: it follows from the node and the scope's type
abbrev pub digest_over : Function → List ℕ → ℕ
digest_over f digests = finish (fold with_digest (begun f) digests)

-- the digest of a bound tree
abbrev mutual
  pub digest_of : BoundTree → ℕ
  digest_of (scope t) = 0
  digest_of (node t f bs) = digest_over f (digests_of bs)

  -- the digests of bound trees, from left to right
  pub digests_of : BoundTrees → List ℕ
  digests_of no_bound = []
  digests_of (bound b bs) = digest_of b ∷ digests_of bs
