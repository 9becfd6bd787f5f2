use Rattle.std.proofs.Common.{◌≡◌, ℕ, List, ◌++◌, drop}
use Rattle.std.specs.Fmt.{HasWritten, IsPlainFormatter}
use Rattle.vx_dtype.proofs.Commas.{after_commas}
use Rattle.vx_fn.specs.Texts.{named_texts}
use Rattle.vx_partition.specs.Partitioned.{texts_of}
use Rattle.vx_partition.proofs.shown.fmt_partitions.Given as goal

-- what is written, and what is left to write, is the text of all
abbrev pub invariant-loop-index : goal.invariant-loop-index
invariant-loop-index g l =
    IsPlainFormatter l.initial.f
    → (done : List ℕ) × HasWritten g.W.Write.write_str_gives l.initial.f done l.f
    × (done ++ after_commas (drop l.index (named_texts l.names (texts_of l.partitions))) ≡ after_commas (drop 1 (named_texts l.names (texts_of l.partitions))))
