use Rattle.std.proofs.Common.{ap, take}
use Rattle.vx_array_kernels.proofs.Beside.{told_first}
use Rattle.vx_array_kernels.proofs.columns.told_in.Goals as goal

pub returns : goal.returns
returns g c =
    told_first g.T.Number.number c.args.comparison c.args.numbers.now c.args.others.now _ _ c.args.count _ c.requires.numbers c.requires.others (ap (take c.args.count) c.as_slice.ensures) (ap (take c.args.count) c.as_slice-2.ensures) c.compare_both.ensures
