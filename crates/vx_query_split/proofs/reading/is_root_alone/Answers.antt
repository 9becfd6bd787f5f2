use Rattle.std.proofs.Common.{arith}
use Rattle.vx_rewrite_analysis.proofs.Reading.{field_of_root-other}
use Rattle.vx_query_split.proofs.reading.is_root_alone.Goals as goal

pub returns-in-len2-up : goal.returns-in-len2-up
returns-in-len2-up c = λ a. field_of_root-other a c.args.children.now (omega (arith, c.in-len2-up.len_at_least))
