use Rattle.std.proofs.Common.{rules}
use Rattle.std.proofs.Output.{has_written_append, has_written_of_eq}
use Rattle.vx_sql.proofs.Spelled.{written-enclosed}
use Rattle.vx_sql.proofs.patterns.Spelling.write_enclosed.Goals as goal

pub returns : goal.returns
returns g c plain ok =
    let one = c.write_str.ensures.writes plain (search rules) in
    let two = c.write_inside.ensures one.plain (search rules) in
    let three = c.write_str-2.ensures.writes two.plain ok in
    has_written_of_eq _ _ _ _ _ (written-enclosed c.args.self.quoting c.args.c) (has_written_append _ _ _ _ _ _ (has_written_append _ _ _ _ _ _ one two) three)
