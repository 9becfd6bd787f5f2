use Rattle.std.proofs.Common.{sym, ap, ◌∙◌, arith, fold}
use Rattle.vx_dtype.proofs.Pairs.{fields_fed_end}
use Rattle.vx_dtype.proofs.hashed.+feed.Goals as goal

pub feed_all-returns : goal.feed_all-returns
feed_all-returns g t c =
    c.write_u8-2.ensures
    ∙ sym (c.loop-i.invariant ∙ ap (fold g.H.Hasher.write c.loop-i.state) (fields_fed_end c.args.names.now c.args.types.now c.loop-i.i (omega arith)))
