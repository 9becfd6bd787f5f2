-- What the call of `prune` answers.
use Rattle.std.specs.Prelude.{◌≡◌, ◌++◌, ℕ, List, codes}
use Rattle.std.specs.Fmt.{decimal}
use Rattle.std.specs.List.{flat_map}
use Rattle.vx_value.specs.Types.{LogicalType}
use Rattle.vx_tree.specs.Trees.{Tree, BoundTree}
use Rattle.vx_prune_tree.specs.Stats.{Facts}
use Rattle.vx_prune_tree.specs.Verdicts.{verdict_in}
use Rattle.vx_prune_tree.specs.declared.verdicts.Verdict.{Verdict}
use Rattle.vx_prune_tree.specs.declared.verdicts.Verdict.TheVariants.{NoRow, EveryRow, Unknown}
use Rattle.vx_command_pages.specs.Inputs.{ReadsAs, ReadsType}
use Rattle.vx_commands.specs.Rows.{IsBoundCondition}

-- a verdict in words
abbrev pub verdict_words : Verdict → List ℕ
verdict_words NoRow = codes "no row"
verdict_words EveryRow = codes "every row"
verdict_words Unknown = codes "to be read"

-- how many rows a chunk has, and the verdict that its statistics tell of the tree, as an object on a line
abbrev pub verdict_line : BoundTree → Facts → List ℕ
verdict_line b facts = codes "{\"rows\":" ++ (decimal facts.rows ++ (codes ",\"verdict\":\"" ++ (verdict_words (verdict_in facts b) ++ codes "\"}\n")))

-- the line of some chunk
abbrev pub IsVerdictLine : BoundTree → List ℕ → Type 0
IsVerdictLine b line = (facts : Facts) × (line ≡ verdict_line b facts)

-- such a line was added
abbrev pub AddsVerdictLine : BoundTree → List ℕ → List ℕ → Type 0
AddsVerdictLine b before after = (facts : Facts) × (after ≡ before ++ verdict_line b facts)

-- a line for each of some chunks, in order
abbrev pub AreVerdictLines : BoundTree → List ℕ → Type 0
AreVerdictLines b page = (chunks : List Facts) × (page ≡ flat_map (verdict_line b) chunks)

-- the same of the expression that the text is read as, bound to the type that the schema is read as, over which it is of type bool
abbrev pub IsVerdictPage : List ℕ → List ℕ → List ℕ → Type 0
IsVerdictPage expression schema page = (e : Tree) × (s : LogicalType) × (b : BoundTree) × ReadsAs expression s e × ReadsType schema s × IsBoundCondition e s b × AreVerdictLines b page
