use Rattle.std.proofs.Common.{◌∙◌, ap, sym, subst}
use Rattle.vx_value.specs.Types.{null}
use Rattle.vx_eval_masks.specs.Merges.{merged_at, EachMask}
use Rattle.vx_eval.specs.Columns.{rows_views, each_row, AllLong}
use Rattle.vx_eval.proofs.Branches.{ready}
use Rattle.vx_eval.proofs.Masked.{if_ok}
use Rattle.vx_eval.proofs.merges.merge.Goals as goal

pub merged-requires : goal.merged-requires
merged-requires c =
    let w = ready c.args.branches.now c.args.rest.now c.args.otherwise.now.rows c.in_ok-masks.masks.items c.in_ok-values.values.items c.requires.masks c.requires.columns c.requires.last c.requires.some c.in_ok-masks.ensures c.in_ok-values.ensures in
    record {
      pairs = w.pairs;
      masks = subst (λ m. EachMask m c.in_ok-masks.masks.items) (sym c.len.ensures) w.masks_long;
      columns = subst (λ m. AllLong m (rows_views c.in_ok-values.values.items)) (sym c.len.ensures) w.columns_long;
      apart = w.apart;
    }

pub returns-clause-rows : goal.returns-clause-rows
returns-clause-rows c =
    let w = ready c.args.branches.now c.args.rest.now c.args.otherwise.now.rows c.in_ok-masks.masks.items c.in_ok-values.values.items c.requires.masks c.requires.columns c.requires.last c.requires.some c.in_ok-masks.ensures c.in_ok-values.ensures in
    if_ok c.merged.result _ _ (λ out rows. rows ∙ ap (λ m. each_row m (merged_at c.in_ok-masks.masks.items (rows_views c.in_ok-values.values.items) null)) c.len.ensures ∙ w.merges) c.merged.ensures.rows
