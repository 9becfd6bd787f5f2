use Rattle.std.proofs.Common.{rules}
use Rattle.std.proofs.Output.{has_written_append, has_written_of_eq}
use Rattle.vx_sql.proofs.Spelled.{written-pair}
use Rattle.vx_sql.proofs.patterns.Spelling.write_pair.Goals as goal

pub returns : goal.returns
returns g c plain ok =
    let one = c.write_inside.ensures plain (search rules) in
    let two = c.write_inside-2.ensures one.plain ok in
    has_written_of_eq _ _ _ _ _ (written-pair c.args.self.quoting c.args.first c.args.second) (has_written_append _ _ _ _ _ _ one two)
