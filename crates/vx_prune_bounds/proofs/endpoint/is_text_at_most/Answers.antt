use Rattle.std.proofs.Common.{ap, ◌∙◌}
use Rattle.std.specs.Ordering.{is_le}
use Rattle.std.proofs.lemmas.Str.{is_utf8-from_IsUtf8}
use Rattle.vx_prune_bounds.proofs.endpoint.is_text_at_most.Goals as goal

pub returns : goal.returns
returns c = rw (is_utf8-from_IsUtf8 _ c.utf8.a, is_utf8-from_IsUtf8 _ c.utf8.b) (c.is_le.ensures ∙ ap is_le c.cmp.ensures)
