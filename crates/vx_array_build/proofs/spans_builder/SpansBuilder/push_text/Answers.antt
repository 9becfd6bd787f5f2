use Rattle.std.proofs.lemmas.Str.{is_utf8-from_IsUtf8}
use Rattle.vx_array_build.proofs.spans_builder.SpansBuilder.push_text.Goals as goal

pub returns-clause-text : goal.returns-clause-text
returns-clause-text c = is_utf8-from_IsUtf8 c.args.text.now c.utf8.text
