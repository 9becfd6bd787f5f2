use Rattle.std.proofs.Common.{refl}
use Rattle.vx_command_pages.proofs.spans.own_span.Goals as goal

pub returns : goal.returns
returns c = refl
