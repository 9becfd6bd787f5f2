use Rattle.std.proofs.Common.{◌∙◌, ◌+◌, ◌||◌, ap, drop}
use Rattle.std.specs.HashSet.{contains}
use Rattle.vx_value.specs.Equality.{equal_datum}
use Rattle.vx_value.specs.Types.{utf8}
use Rattle.vx_value.specs.Views.{data_view, value_of}
use Rattle.vx_fn.specs.Values.{has_element}
use Rattle.vx_array.proofs.Reading.{value_of-Null, value_of-Utf8}
use Rattle.vx_array_kernels.specs.Members.{same_bytes}
use Rattle.vx_array_kernels.proofs.Members.{all_found, null_more, text_more}
use Rattle.vx_array_kernels.proofs.member_texts.texts_of.Goals.{in-Null, in-Utf8+in_ok-insert-in-Utf8}
use Rattle.vx_array_kernels.proofs.member_texts.texts_of.Goals as goal

pub loop-item-preserved : goal.loop-item-preserved
loop-item-preserved c =
    let items = c.args.items.now in
    let i = c.loop-item.item-index in
    let x = c.item-item.result in
    elim c.match-item.branch [
      | in-Null w ↦ λ q. null_more _ (has_element (data_view items) (utf8 q.now)) items i x (utf8 q.now) c.loop-item-test.true c.item-item.is (ap (λ v. equal_datum (value_of v) (utf8 q.now)) w.in-Null.is ∙ ap (λ d. equal_datum d (utf8 q.now)) value_of-Null)
          (ap (λ s. contains same_bytes s q || has_element (data_view (drop i items)) (utf8 q.now)) w.set-is ∙ c.loop-item.invariant q)
      | in-Utf8+in_ok-insert-in-Utf8 w ↦ λ q. ap (λ s. contains same_bytes s q || has_element (data_view (drop (i + 1) items)) (utf8 q.now)) w.set-is ∙
          text_more c.loop-item.set w.insert.new.self w.as_bytes.result _ items i x c.loop-item-test.true c.item-item.is (ap value_of w.in-Utf8.is ∙ value_of-Utf8 w.in-Utf8.text) (w.as_bytes.ensures.value ∙ w.as_str.ensures.value) w.in_ok-insert-in-Utf8.ensures.updates.0 c.loop-item.invariant q
    ]

pub returns : goal.returns
returns c = λ q. all_found _ (has_element (data_view c.args.items.now) (utf8 q.now)) c.args.items.now c.loop-item.item-index (utf8 q.now) c.loop-item-test.false (c.loop-item.invariant q)
