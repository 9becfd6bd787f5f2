use Rattle.std.proofs.Common.{◌≡◌, [], map, filter, string_bytes, arith, rules}
use Rattle.std.specs.List.{list_any}
use Rattle.vx_value.specs.Paths.{minimal_paths}
use Rattle.vx_sql_plan.specs.Statements.{leads_into, column_refusal, IsRefusalOf}
use Rattle.vx_sql_plan.proofs.ReadColumns.{turn_start, turn_next, turn_told, turn_end}
use Rattle.vx_sql_plan.proofs.columns.column_texts.Goals as goal

pub loop-i-init : goal.loop-i-init
loop-i-init c =
    let none : map string_bytes c.new-texts.result.items ≡ [] = search rules in
    turn_start c.args.dialect (λ a. list_any (leads_into a) (minimal_paths c.args.paths.now)) c.args.names.now _ none

pub loop-i-preserved : goal.loop-i-preserved
loop-i-preserved c =
    turn_next c.args.dialect (λ a. list_any (leads_into a) (minimal_paths c.args.paths.now)) c.args.names.now c.loop-i.i c.index-names-i.result _ _ c.loop-i-test.true c.index-names-i.is
    c.in_ok-push_text.ensures.0 c.in_ok-push_text.ensures.1 c.loop-i.invariant

pub returns-in_err-push_text : goal.returns-in_err-push_text
returns-in_err-push_text c =
    let told : IsRefusalOf (column_refusal c.args.dialect c.args.names.now (filter (λ a. list_any (leads_into a) (minimal_paths c.args.paths.now)) c.args.names.now)) c.in_err-push_text.field-0.0 =
    turn_told c.args.dialect (λ a. list_any (leads_into a) (minimal_paths c.args.paths.now)) c.args.names.now c.loop-i.i c.index-names-i.result _ _ c.loop-i-test.true c.index-names-i.is
    c.in_err-push_text.ensures c.loop-i.invariant in
    search rules

pub returns : goal.returns
returns c = turn_end c.args.dialect (λ a. list_any (leads_into a) (minimal_paths c.args.paths.now)) c.args.names.now c.loop-i.i _ (omega arith) c.loop-i.invariant
