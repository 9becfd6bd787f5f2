use Rattle.std.proofs.Common.{◌∙◌}
use Rattle.std.proofs.lemmas.Str.Pattern.{starts_text}
use Rattle.vx_eval_like.proofs.Beginning.{by_characters}
use Rattle.vx_eval_like.proofs.beginnings.begins_with.Goals as goal

pub returns : goal.returns
returns c =
    starts_text _ c.args.prefix.now c.args.text.now c.starts_with.ensures.cases ∙ by_characters c.args.text.now c.args.prefix.now c.utf8.text c.utf8.prefix
