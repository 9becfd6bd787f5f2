use Rattle.std.proofs.Common.{◌≡◌, drop, fold}
use Rattle.vx_tree.specs.Digests.{digests_of, with_digest}
use Rattle.vx_tree.specs.Views.{bounds_of}
use Rattle.vx_tree.proofs.digest.+digest_of.Given as goal

-- once the children that are left are fed, all are
abbrev pub invariant-loop-child : goal.invariant-loop-child
invariant-loop-child l =
    fold with_digest l.initial.hasher (digests_of (bounds_of l.child-items)) ≡ fold with_digest l.hasher (digests_of (bounds_of (drop l.child-index l.child-items)))
