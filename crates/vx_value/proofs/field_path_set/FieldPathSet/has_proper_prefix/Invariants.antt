use Rattle.std.proofs.Common.{◌≡◌, ℕ, ◌<◌, take, false}
use Rattle.vx_value.specs.Paths.{is_member, path_of}
use Rattle.vx_value.proofs.field_path_set.FieldPathSet.has_proper_prefix.Given as goal

abbrev pub invariant-loop-len : goal.invariant-loop-len
invariant-loop-len l = (k : ℕ) → k < l.len → is_member l.self (take k (path_of l.parts)) ≡ false
