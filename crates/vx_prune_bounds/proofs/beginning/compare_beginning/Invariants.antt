use Rattle.std.proofs.Common.{◌≡◌, false, length}
use Rattle.vx_fn.specs.Values.{parts}
use Rattle.vx_prune_bounds.specs.Beginnings.{fixed_characters, beginning, beginning_cmp}
use Rattle.vx_prune_bounds.proofs.beginning.compare_beginning.Given as goal

abbrev pub invariant-loop-byte : goal.invariant-loop-byte
invariant-loop-byte l = beginning_cmp (fixed_characters (parts false l.wanted)) l.found ≡ beginning_cmp (beginning false l.fn.pattern) l.fn.text

abbrev pub decreases-loop-byte : goal.decreases-loop-byte
decreases-loop-byte l = length l.wanted
