-- What the program's statistics stand for.
use Rattle.std.specs.Option.{option_map}
use Rattle.vx_value.specs.Paths.{Path}
use Rattle.vx_value.specs.Views.{value_of}
use Rattle.vx_prune_tree.specs.declared.field_stats.FieldStats.{FieldStats}
use Rattle.vx_prune_tree.specs.Stats.{FieldFacts, field_facts}

-- what a `FieldStats` stands for
abbrev pub stats_facts : FieldStats → FieldFacts
stats_facts s = field_facts s.null_count (option_map value_of s.least) (option_map value_of s.greatest)

-- what a path with its statistics stands for
abbrev pub entry_facts : Path × FieldStats → Path × FieldFacts
entry_facts entry = (entry.0, stats_facts entry.1)
