use Rattle.std.proofs.Common.{◌≡◌, ◌∙◌, ℕ, List, [], false, get_or, map, rules, sym, take}
use Rattle.vx_value.specs.Types.{Data, utf8}
use Rattle.vx_value.specs.Views.{data_view}
use Rattle.vx_fn.specs.Values.{has_element}
use Rattle.vx_array.specs.Kinds.{spans_in}
use Rattle.vx_array_loops.proofs.Filled.{written_as}
use Rattle.vx_array_kernels.specs.Members.{HasTexts}
use Rattle.vx_array_kernels.proofs.Members.{first_long, first_read}
use Rattle.vx_array_kernels.proofs.member_texts.texts_told.Goals as goal

pub returns : goal.returns
returns c =
    let spans = spans_in c.args.texts.spans.now in
    let n = c.args.texts.count in
    let told = λ (bs : List ℕ). has_element (data_view c.args.items.now) (utf8 bs) in
    written_as false n (map told (take n spans)) c.in_ok-told.told _ (first_long told spans n c.requires) c.in_ok-told.ensures.long c.in_ok-told.ensures.each
    (λ k b lt post.
    let tells : (ws : Data) → HasTexts c.in-Some.set ws → b ≡ has_element ws (utf8 (get_or spans k [])) = search rules in
    tells (data_view c.args.items.now) (rw c.in-Some.is at c.in_ok-set.ensures) ∙ sym (first_read told [] spans n k lt c.requires))
