use Rattle.std.proofs.Common.{rules}
use Rattle.std.proofs.Output.{has_written_append}
use Rattle.vx_sql.proofs.Spelled.{character_turn}
use Rattle.vx_sql.proofs.quotes.write_characters.Goals as goal

pub loop-c-preserved : goal.loop-c-preserved
loop-c-preserved g c = (
  search rules,
  λ plain.
      let (done, wrote, left) = c.loop-c.invariant.1 plain in (
        _,
        has_written_append _ _ _ _ _ _ wrote (c.write_inside.ensures wrote.plain (search rules)),
        character_turn c.args.quoting done _ _ _ c.in-Some.c c.in-Some.ensures left,
      ),
)
