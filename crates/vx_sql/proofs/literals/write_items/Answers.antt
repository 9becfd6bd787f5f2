use Rattle.std.proofs.Common.{[], refl, arith, rules}
use Rattle.std.proofs.Output.{has_written_append, has_written_of_eq}
use Rattle.vx_value.specs.Views.{type_of}
use Rattle.vx_sql.proofs.Items.{items_next, items_all}
use Rattle.vx_sql.proofs.literals.write_items.Goals as goal

pub loop-i-init : goal.loop-i-init
loop-i-init g c = λ plain. ([], record { wrote = record { parts = []; calls = refl; whole = refl }; plain = plain }, refl)

pub loop-i-preserved : goal.loop-i-preserved
loop-i-preserved g c = λ plain.
    let (done, wrote, left) = c.loop-i.invariant plain in
    let comma = c.write_str.ensures.writes wrote.plain (search rules) in
    let value = c.in_ok-write_value.ensures comma.plain refl in (
      _,
      has_written_append _ _ _ _ _ _ (has_written_append _ _ _ _ _ _ wrote comma) value,
      items_next c.args.dialect c.args.items.now (type_of c.args.dtype.now) c.loop-i.i c.index-items-i.result done _ _ (omega arith) c.index-items-i.is c.separator.ensures left,
    )

pub returns : goal.returns
returns g c = λ plain ok.
    let (done, wrote, left) = c.loop-i.invariant plain in
    has_written_of_eq _ _ _ _ _ (items_all c.args.dialect c.args.items.now (type_of c.args.dtype.now) c.loop-i.i done _ (omega arith) left) wrote
