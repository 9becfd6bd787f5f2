use Rattle.std.proofs.Common.{◌∙◌}
use Rattle.vx_rewrite_standard.proofs.Named.{fields-nullable}
use Rattle.vx_rewrite_standard.proofs.packs.are_nullable.Goals as goal

pub returns : goal.returns
returns c = c.each_nullable.ensures ∙ fields-nullable _ _ _ _ c.types.ensures.fields c.nfields.ensures
