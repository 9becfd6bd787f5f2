use Rattle.std.proofs.Common.{◌≡◌, drop}
use Rattle.std.specs.List.{list_all}
use Rattle.vx_source_types.specs.Characters.{is_word}
use Rattle.vx_sql_parser.proofs.names.are_words.Given as goal

abbrev pub invariant-loop-b : goal.invariant-loop-b
invariant-loop-b l = list_all is_word (drop l.b-index l.bytes) ≡ list_all is_word l.bytes
