use Rattle.std.proofs.Common.{◌≡◌, ◌≤◌, ◌-◌, length, drop, false}
use Rattle.vx_source_types.specs.Tokens.{unquoted, after_bytes}
use Rattle.vx_source_types.proofs.quotes.unquoted.Given as goal

abbrev pub invariant-loop-at : goal.invariant-loop-at
invariant-loop-at l = (l.at ≤ length l.bytes) × (after_bytes l.made.items (unquoted l.quote l.seen (drop l.at l.bytes)) ≡ unquoted l.quote false l.bytes)

abbrev pub decreases-loop-at : goal.decreases-loop-at
decreases-loop-at l = length l.initial.bytes - l.at
