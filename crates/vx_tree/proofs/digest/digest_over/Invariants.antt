use Rattle.std.proofs.Common.{◌≡◌, drop, fold}
use Rattle.vx_tree.specs.Digests.{with_digest}
use Rattle.vx_tree.proofs.digest.digest_over.Given as goal

-- once the digests that are left are fed, all are
abbrev pub invariant-loop-digest : goal.invariant-loop-digest
invariant-loop-digest l = fold with_digest l.initial.hasher l.digests ≡ fold with_digest l.hasher (drop l.digest-index l.digests)
