use Rattle.std.proofs.Common.{◌≡◌, refl, sym, ap, ◌∙◌, chars, true}
use Rattle.std.specs.List.{list_all}
use Rattle.std.proofs.lemmas.Str.{is_utf8-from_IsUtf8}
use Rattle.vx_eval_like.specs.Beginnings.{stands_for_itself}
use Rattle.vx_eval_like.proofs.beginnings.is_plain_text.Goals as goal

pub returns : goal.returns
returns c =
    let text = is_utf8-from_IsUtf8 c.args.text.now c.utf8.text in
    let all : list_all stands_for_itself (chars c.args.text.now) ≡ true = sym c.loop-c.invariant.1 ∙ ap (list_all stands_for_itself) c.in_default.ensures in
    rw (text, all) refl
