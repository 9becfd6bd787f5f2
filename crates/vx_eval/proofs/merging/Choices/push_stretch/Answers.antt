use Rattle.std.proofs.Common.{◌≡◌, ◌<◌, ◌≤◌, ◌∙◌, ap, arith, sym, length, get_or, []}
use Rattle.vx_value.specs.Types.{null}
use Rattle.vx_value.specs.Views.{value_of}
use Rattle.vx_eval_masks.specs.Masks.{IsRunFrom}
use Rattle.vx_eval_masks.specs.Merges.{merged_at}
use Rattle.vx_eval_masks.proofs.Apart.{merged-none}
use Rattle.vx_eval_masks.proofs.Writing.{row_pushed}
use Rattle.vx_eval.proofs.Structs.{value_of-Null}
use Rattle.vx_value.proofs.TakenRows.{lengths_kept}
use Rattle.vx_eval.specs.Columns.{rows_view}
use Rattle.vx_eval.proofs.Lengths.{long_at, long_of}
use Rattle.vx_eval.proofs.Masked.{holds_in, if_ok, stretch_left}
use Rattle.vx_eval.proofs.merging.Choices.push_stretch.Goals as goal

pub place_at-requires : goal.place_at-requires
place_at-requires c = record {
  rows = λ j lt.
      let size : length (get_or c.args.self.now.masks.now j []) ≡ c.args.count = long_at c.args.count c.args.self.now.masks.now j [] c.requires.masks lt in
      let inside : c.args.next < c.args.count = c.requires.row in
      omega arith;
}

pub push_rows-requires-clause-values : goal.push_rows-requires-clause-values
push_rows-requires-clause-values c =
    long_of c.args.count rows_view c.args.values.now.items c.in-Some.place _ c.requires.columns (omega (arith, c.in-Some.ensures.0, c.requires.pairs)) c.index_mut.ensures.value
    ∙ sym (ap length c.index-masks-place.is ∙ long_at c.args.count c.args.self.now.masks.now c.in-Some.place _ c.requires.masks c.in-Some.ensures.0)

pub returns-in-Some-clause-within : goal.returns-in-Some-clause-within
returns-in-Some-clause-within c =
    let size : length c.index-masks-place.result ≡ c.args.count = ap length c.index-masks-place.is ∙ long_at c.args.count c.args.self.now.masks.now c.in-Some.place _ c.requires.masks c.in-Some.ensures.0 in
    if_ok c.push_rows.result (λ end. IsRunFrom c.index-masks-place.result c.args.next end) (λ end. end ≤ c.args.count) (λ end run. omega (arith, run.high)) c.push_rows.ensures.run

pub returns-in-Some-clause-rows : goal.returns-in-Some-clause-rows
returns-in-Some-clause-rows c = λ cs long same so_far.
    c.push_rows.ensures.rows (merged_at c.args.self.now.masks.now cs null)
    (holds_in c.args.self.now.masks.now c.args.values.now.items cs c.args.next c.in-Some.place _ _ c.requires.apart c.requires.pairs long same c.in-Some.ensures.0 c.index_mut.ensures.value c.index-masks-place.is) so_far

pub returns-in-Some-clause-left : goal.returns-in-Some-clause-left
returns-in-Some-clause-left c =
    if_ok c.push_rows.result _ _ (λ end left. stretch_left _ end c.in-Some.place _ _ (omega (arith, c.in-Some.ensures.0, c.requires.pairs)) c.index_mut.ensures.value left) c.push_rows.ensures.left

pub returns-in-Some-clause-long : goal.returns-in-Some-clause-long
returns-in-Some-clause-long c =
    if_ok c.push_rows.result _ _ (λ end long. lengths_kept rows_view _ c.in-Some.place _ _ (omega (arith, c.in-Some.ensures.0, c.requires.pairs)) c.index_mut.ensures.value long) c.push_rows.ensures.long

pub returns-in_ok-push-in-None-clause-rows : goal.returns-in_ok-push-in-None-clause-rows
returns-in_ok-push-in-None-clause-rows c = λ cs long same so_far.
    row_pushed value_of _ _ _ c.args.next _ so_far c.in_ok-push-in-None.ensures.items (value_of-Null ∙ sym (merged-none c.args.self.now.masks.now cs null c.args.next c.in-None.ensures))
