use Rattle.std.proofs.Common.{rules}
use Rattle.vx_array_kernels.specs.Likeness.{text_rows}
use Rattle.vx_array_kernels.proofs.NullRows.{values_made}
use Rattle.vx_array_kernels.proofs.likeness.texts_there.Goals as goal

pub returns : goal.returns
returns c = values_made c.args.texts.count (text_rows c.args.texts) _ c.tabulated.result c.requires.long c.tabulated.ensures.long c.tabulated.ensures.each (λ k x lt post. search rules)
