use Rattle.std.proofs.Common.{subst, Ok}
use Rattle.vx_dtype.specs.Returns.{ReturnsOrOom}
use Rattle.vx_value.specs.Columns.{batch}
use Rattle.vx_value.specs.Views.{type_of}
use Rattle.vx_eval.specs.Choices.{rows_in, height}
use Rattle.vx_eval.proofs.Matched.{count_is, turned_long, chosen_rows, chosen_fit}
use Rattle.vx_eval.proofs.matching.first_match.Goals as goal

pub first_true-requires : goal.first_true-requires
first_true-requires c =
    turned_long _ (height c.args.conditions.now) (rows_in c.args.conditions.now) (rows_in c.args.values.now) _ c.args.otherwise (λ c. c.now.rows) (type_of c.args.dtype.now) c.in_ok-columns.ensures
    (count_is _ _ _ c.requires.some c.index-conditions-0.is c.len-count.ensures) c.requires.tests c.requires.choices c.requires.last

pub into_column-requires : goal.into_column-requires
into_column-requires c =
    let counted = count_is _ _ _ c.requires.some c.index-conditions-0.is c.len-count.ensures in
    let rows = chosen_rows c.len-count.result c.args.conditions.now c.args.values.now _ _ _ c.in_ok-columns.ensures counted c.requires.pairs c.in_ok-first_true.ensures.rows in
    chosen_fit (type_of c.args.dtype.now) (height c.args.conditions.now) _ _ c.args.otherwise (λ c. c.now.rows) _ rows c.requires.choices c.requires.fit c.requires.last

pub returns : goal.returns
returns c =
    let counted = count_is _ _ _ c.requires.some c.index-conditions-0.is c.len-count.ensures in
    let rows = chosen_rows c.len-count.result c.args.conditions.now c.args.values.now _ _ _ c.in_ok-columns.ensures counted c.requires.pairs c.in_ok-first_true.ensures.rows in
    subst (λ rows. ReturnsOrOom (λ c. c) c.into_column.result (Ok (batch (type_of c.args.dtype.now) rows))) rows c.into_column.ensures
