use Rattle.std.proofs.Common.{◌≡◌, ◌∙◌, rules, sym, ap, subst, length, Some, None, get_or}
use Rattle.std.proofs.lemmas.List.{length-map}
use Rattle.vx_value.specs.Types.{null}
use Rattle.vx_value.specs.Views.{value_of}
use Rattle.vx_eval_masks.specs.Merges.{merged_at, EachMask}
use Rattle.vx_eval.specs.declared.rows.Rows.TheVariants.{Owned}
use Rattle.vx_eval.specs.Columns.{values_of, rows_views, each_row, AllLong}
use Rattle.vx_eval.proofs.Masked.{split, parts_pair, parts_masks, parts_columns, parts_apart, chosen_without, chosen_over, last_long, with_last, if_ok}
use Rattle.vx_eval.proofs.choice.first_true.Goals as goal

pub merged-requires : goal.merged-requires
merged-requires c =
    let n = c.args.count in
    let cs = rows_views c.args.columns.items in
    let b = c.in_ok-masks.field-0 in
    let s = split n cs b.masks.items b.rest b.values.items b.last None c.in_ok-masks.ensures.masks c.in_ok-masks.ensures.rest c.in_ok-masks.ensures.values c.in_ok-masks.ensures.last c.in-None.is in
    record {
      pairs = parts_pair n cs b.masks.items b.rest b.values.items None s;
      masks = parts_masks n cs b.masks.items b.rest b.values.items None s c.requires;
      columns = parts_columns n cs b.masks.items b.rest b.values.items None s c.requires;
      apart = parts_apart n cs b.masks.items b.rest b.values.items None s c.requires;
    }

pub written-requires : goal.written-requires
written-requires c =
    let n = c.args.count in
    let cs = rows_views c.args.columns.items in
    let b = c.in_ok-masks.field-0 in
    let column = Owned c.in-Some-Owned.rows in
    let last : b.last ≡ Some column = search rules in
    let s = split n cs b.masks.items b.rest b.values.items b.last (Some column) c.in_ok-masks.ensures.masks c.in_ok-masks.ensures.rest c.in_ok-masks.ensures.values c.in_ok-masks.ensures.last last in
    let long : length c.in-Some-Owned.rows.items ≡ n = sym (length-map c.in-Some-Owned.rows.items value_of) ∙ last_long n cs b.masks.items b.rest b.values.items column s c.requires in
    record {
      pairs = parts_pair n cs b.masks.items b.rest b.values.items (Some column) s;
      masks = subst (λ m. EachMask m b.masks.items) (sym long) (parts_masks n cs b.masks.items b.rest b.values.items (Some column) s c.requires);
      columns = subst (λ m. AllLong m (rows_views b.values.items)) (sym long) (parts_columns n cs b.masks.items b.rest b.values.items (Some column) s c.requires);
      apart = parts_apart n cs b.masks.items b.rest b.values.items (Some column) s c.requires;
    }

pub merged-requires-in-Some : goal.merged-requires-in-Some
merged-requires-in-Some c =
    let n = c.args.count in
    let cs = rows_views c.args.columns.items in
    let b = c.in_ok-masks.field-0 in
    let last : b.last ≡ Some c.in-Some.column = search rules in
    let s = split n cs b.masks.items b.rest b.values.items b.last (Some c.in-Some.column) c.in_ok-masks.ensures.masks c.in_ok-masks.ensures.rest c.in_ok-masks.ensures.values c.in_ok-masks.ensures.last last in
    let w = with_last n cs b.masks.items c.push.new.self.items b.rest b.values.items c.push-in-Some.new.self.items c.in-Some.column s c.requires c.in_ok-push-in-Some.ensures.items c.in_ok-push-in-Some-2.ensures.items in
    record { pairs = w.pairs; masks = w.masks_long; columns = w.columns_long; apart = w.apart }

pub returns-in-None-clause-rows : goal.returns-in-None-clause-rows
returns-in-None-clause-rows c =
    let n = c.args.count in
    let cs = rows_views c.args.columns.items in
    let b = c.in_ok-masks.field-0 in
    let s = split n cs b.masks.items b.rest b.values.items b.last None c.in_ok-masks.ensures.masks c.in_ok-masks.ensures.rest c.in_ok-masks.ensures.values c.in_ok-masks.ensures.last c.in-None.is in
    if_ok c.merged.result _ _ (λ out rows. rows ∙ chosen_without n cs b.masks.items b.rest b.values.items s c.requires) c.merged.ensures.rows

pub returns-in-Some-Owned-clause-rows : goal.returns-in-Some-Owned-clause-rows
returns-in-Some-Owned-clause-rows c =
    let n = c.args.count in
    let cs = rows_views c.args.columns.items in
    let b = c.in_ok-masks.field-0 in
    let column = Owned c.in-Some-Owned.rows in
    let last : b.last ≡ Some column = search rules in
    let s = split n cs b.masks.items b.rest b.values.items b.last (Some column) c.in_ok-masks.ensures.masks c.in_ok-masks.ensures.rest c.in_ok-masks.ensures.values c.in_ok-masks.ensures.last last in
    let long : length c.in-Some-Owned.rows.items ≡ n = sym (length-map c.in-Some-Owned.rows.items value_of) ∙ last_long n cs b.masks.items b.rest b.values.items column s c.requires in
    if_ok c.written.result _ _
    (λ out rows. rows ∙ ap (λ m. each_row m (λ k. merged_at b.masks.items (rows_views b.values.items) (get_or (values_of c.in-Some-Owned.rows.items) k null) k)) long ∙ chosen_over n cs b.masks.items b.rest b.values.items column s c.requires) c.written.ensures.rows

pub returns-in_ok-push-in-Some-2 : goal.returns-in_ok-push-in-Some-2
returns-in_ok-push-in-Some-2 c =
    let n = c.args.count in
    let cs = rows_views c.args.columns.items in
    let b = c.in_ok-masks.field-0 in
    let last : b.last ≡ Some c.in-Some.column = search rules in
    let s = split n cs b.masks.items b.rest b.values.items b.last (Some c.in-Some.column) c.in_ok-masks.ensures.masks c.in_ok-masks.ensures.rest c.in_ok-masks.ensures.values c.in_ok-masks.ensures.last last in
    let w = with_last n cs b.masks.items c.push.new.self.items b.rest b.values.items c.push-in-Some.new.self.items c.in-Some.column s c.requires c.in_ok-push-in-Some.ensures.items c.in_ok-push-in-Some-2.ensures.items in
    record { rows = if_ok c.merged-in-Some.result _ _ (λ out rows. rows ∙ w.chosen) c.merged-in-Some.ensures.rows; memory = c.merged-in-Some.ensures.memory }
