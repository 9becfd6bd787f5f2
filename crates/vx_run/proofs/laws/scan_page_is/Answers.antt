-- The page is computed.
use Rattle.std.proofs.Common.{refl}
use Rattle.std.specs.Char.{encode_utf8}
use Rattle.std.specs.Fmt.{digits}
use Rattle.vx_run.proofs.laws.scan_page_is.Goals as goal

pub returns : goal.returns
unfolding digits encode_utf8
returns c = refl
