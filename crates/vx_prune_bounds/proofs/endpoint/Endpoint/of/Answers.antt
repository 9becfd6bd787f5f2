use Rattle.std.proofs.Common.{◌≡◌, ap, sym, ◌∙◌}
use Rattle.std.proofs.lemmas.Str.{is_utf8-from_IsUtf8}
use Rattle.vx_value.specs.Types.{utf8, bytes}
use Rattle.vx_value.specs.Views.{value_of}
use Rattle.vx_prune_bounds.specs.Order.{comparable}
use Rattle.vx_prune_bounds.proofs.Ends.{value_of-Utf8, value_of-Binary}
use Rattle.vx_prune_bounds.proofs.Ordered.{comparable_text, comparable_bytes}
use Rattle.vx_prune_bounds.proofs.endpoint.Endpoint.of.Goals as goal

pub returns-in-Utf8 : goal.returns-in-Utf8
returns-in-Utf8 c =
    let text : value_of c.args.value.now ≡ utf8 c.as_str.result.now = value_of-Utf8 _ _ _ c.in-Utf8.is c.as_str.ensures.value in
    sym (ap comparable text ∙ comparable_text c.as_str.result.now (is_utf8-from_IsUtf8 _ c.as_str.utf8))

pub returns-in-Binary : goal.returns-in-Binary
returns-in-Binary c =
    let octets : value_of c.args.value.now ≡ bytes c.as_slice.result.now = value_of-Binary _ _ _ c.in-Binary.is c.as_slice.ensures.value in
    sym (ap comparable octets ∙ comparable_bytes c.as_slice.result.now)
