use Rattle.std.proofs.Common.{[], refl, rules}
use Rattle.std.proofs.Output.{has_written_append}
use Rattle.vx_eval_like.specs.Patterns.{part_view}
use Rattle.vx_sql.specs.Patterns.{part_spelled}
use Rattle.vx_sql.proofs.Spelled.{thing_turn}
use Rattle.vx_sql.proofs.patterns.Spelling.write_parts.Goals as goal

pub loop-part-init : goal.loop-part-init
loop-part-init g c = (c.utf8.pattern, λ plain. ([], record { wrote = record { parts = []; calls = refl; whole = refl }; plain = plain }, refl))

pub loop-part-preserved : goal.loop-part-preserved
loop-part-preserved g c = (
  search rules,
  λ plain.
      let (done, wrote, left) = c.loop-part.invariant.1 plain in (
        _,
        has_written_append _ _ _ _ _ _ wrote (c.write_part.ensures wrote.plain (search rules)),
        thing_turn (part_spelled c.args.self.dialect c.args.self.ignore_case) c.args.self.quoting done _ _ _ (part_view c.in-Some.part) c.in-Some.ensures.part left,
      ),
)
