-- The bytes of the pattern tell its beginning.
use Rattle.std.proofs.Common.{ap}
use Rattle.vx_prune_bounds.specs.Beginnings.{beginning_cmp}
use Rattle.vx_prune_bounds.proofs.Bytes.{beginning-bytes}
use Rattle.vx_prune_bounds.proofs.beginning.compare_beginning.Goals as goal

pub loop-byte-init : goal.loop-byte-init
loop-byte-init c =
    rw (c.as_bytes-wanted.ensures.value, c.as_bytes-found.ensures.value) (ap (λ q. beginning_cmp q c.args.text.now) (beginning-bytes c.args.pattern.now c.utf8.pattern))
