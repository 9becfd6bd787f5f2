use Rattle.std.proofs.Common.{arith}
use Rattle.std.proofs.lemmas.Str.Pattern.{strip_suffix_char}
use Rattle.vx_eval_like.proofs.Beginning.{stripped}
use Rattle.vx_eval_like.proofs.beginnings.before_percent.Goals as goal

pub returns : goal.returns
returns c = stripped c.args.pattern.now _ (strip_suffix_char 37 c.args.pattern.now _ c.strip_suffix.ensures.cases (omega arith))
