use Rattle.std.proofs.Common.{arith, refl, rules}
use Rattle.std.proofs.Output.{has_written_append, has_written_of_eq}
use Rattle.vx_source_types.proofs.NameSources.{names_next, names_all}
use Rattle.vx_source_types.proofs.names.write_names.Goals as goal

pub loop-i-preserved : goal.loop-i-preserved
loop-i-preserved g c = λ plain.
    let (done, wrote, left) = c.loop-i.invariant plain in
    let comma = c.write_str.ensures.writes wrote.plain (search rules) in
    let name = c.in_ok-write_name.ensures comma.plain refl in (
      _,
      has_written_append _ _ _ _ _ _ (has_written_append _ _ _ _ _ _ wrote comma) name,
      names_next c.args.names.now c.loop-i.i c.index-names-i.result done _ _ (omega arith) c.index-names-i.is c.separator.ensures left,
    )

pub returns : goal.returns
returns g c = λ plain ok.
    let (done, wrote, left) = c.loop-i.invariant plain in
    has_written_of_eq _ _ _ _ _ (names_all c.args.names.now c.loop-i.i done _ (omega arith) left) wrote
