use Rattle.std.proofs.Common.{◌≡◌, ◌≢◌, ◌∙◌, IfOk, replicate, sym, ap, subst, true, false}
use Rattle.vx_value.specs.Views.{type_of}
use Rattle.vx_fn.specs.Functions.{is_truth}
use Rattle.vx_tree.specs.Trees.{Over, node_type}
use Rattle.vx_tree.specs.Views.{bound_of}
use Rattle.vx_scan.proofs.Scanning.{differs, agrees}
use Rattle.vx_prune_tree.specs.Verdicts.{VerdictHolds, verdict_in}
use Rattle.vx_prune.proofs.Selecting.{mismatched, no_truth, no_row_selected, every_row_selected, read_selected, unread_selected}
use Rattle.vx_prune.proofs.selected.select_rows.Goals as goal

pub returns-then-ne : goal.returns-then-ne
returns-then-ne g c =
    let batch = g.R.PathReader.batch c.args.reader.now in
    let plan = c.args.plan.now in
    let s = type_of plan.scope in
    let u = bound_of plan.tree in
    let facts = c.args.stats.now in
    let other : batch.type ≢ s = λ e. differs (type_of c.dtype-dtype.result.now) (type_of c.scope.result.now) c.ne.result c.ne.ensures c.if-ne.true (c.dtype-dtype.ensures.dtype ∙ e ∙ ap type_of (sym c.scope.ensures)) in
    let all = mismatched s u facts batch other in
    record { mismatch = all.mismatch; not_bool = all.not_bool; rows = all.rows; faults = all.faults; sure = all.sure }

pub returns-then-not-is_bool : goal.returns-then-not-is_bool
returns-then-not-is_bool g c =
    let batch = g.R.PathReader.batch c.args.reader.now in
    let plan = c.args.plan.now in
    let s = type_of plan.scope in
    let u = bound_of plan.tree in
    let facts = c.args.stats.now in
    let same : batch.type ≡ s = sym c.dtype-dtype.ensures.dtype ∙ agrees (type_of c.dtype-dtype.result.now) (type_of c.scope.result.now) c.ne.result c.ne.ensures c.if-ne.false ∙ ap type_of c.scope.ensures in
    let typed : type_of c.dtype.result.now ≡ node_type u = c.dtype.ensures ∙ ap (λ t. node_type (bound_of t)) c.tree.ensures in
    let other : is_truth (node_type u) ≡ false = ap is_truth (sym typed) ∙ sym c.is_bool.ensures ∙ c.if-not-is_bool.true in
    let all = no_truth s u facts batch same other in
    record { mismatch = all.mismatch; not_bool = all.not_bool; rows = all.rows; faults = all.faults; sure = all.sure }

pub returns-in-NoRow : goal.returns-in-NoRow
returns-in-NoRow g c =
    let batch = g.R.PathReader.batch c.args.reader.now in
    let plan = c.args.plan.now in
    let s = type_of plan.scope in
    let u = bound_of plan.tree in
    let facts = c.args.stats.now in
    let same : batch.type ≡ s = sym c.dtype-dtype.ensures.dtype ∙ agrees (type_of c.dtype-dtype.result.now) (type_of c.scope.result.now) c.ne.result c.ne.ensures c.if-ne.false ∙ ap type_of c.scope.ensures in
    let typed : type_of c.dtype.result.now ≡ node_type u = c.dtype.ensures ∙ ap (λ t. node_type (bound_of t)) c.tree.ensures in
    let truth : is_truth (node_type u) ≡ true = ap is_truth (sym typed) ∙ sym c.is_bool.ensures ∙ c.if-not-is_bool.false in
    let exact : c.verdict.result ≡ verdict_in facts u = subst (λ t. c.verdict.result ≡ verdict_in facts (bound_of t)) c.tree-2.ensures c.verdict.ensures.exact in
    let holds : VerdictHolds facts u c.verdict.result = subst (λ t. VerdictHolds facts (bound_of t) c.verdict.result) c.tree-2.ensures c.verdict.ensures.holds in
    let mask : IfOk c.all_rows.result (λ m. m ≡ replicate facts.rows false) = subst (λ n. IfOk c.all_rows.result (λ m. m ≡ replicate n false)) c.rows.ensures c.all_rows.ensures.mask in
    let all = no_row_selected s u facts batch c.verdict.result c.all_rows.result plan.is_plan.well_typed (subst (Over u) (sym same) plan.is_plan.over) same truth c.dtype-dtype.ensures.rows c.in-NoRow.is exact holds mask c.all_rows.ensures.memory in
    record { mismatch = all.mismatch; not_bool = all.not_bool; rows = all.rows; faults = all.faults; sure = all.sure }

pub returns-in-EveryRow : goal.returns-in-EveryRow
returns-in-EveryRow g c =
    let batch = g.R.PathReader.batch c.args.reader.now in
    let plan = c.args.plan.now in
    let s = type_of plan.scope in
    let u = bound_of plan.tree in
    let facts = c.args.stats.now in
    let same : batch.type ≡ s = sym c.dtype-dtype.ensures.dtype ∙ agrees (type_of c.dtype-dtype.result.now) (type_of c.scope.result.now) c.ne.result c.ne.ensures c.if-ne.false ∙ ap type_of c.scope.ensures in
    let typed : type_of c.dtype.result.now ≡ node_type u = c.dtype.ensures ∙ ap (λ t. node_type (bound_of t)) c.tree.ensures in
    let truth : is_truth (node_type u) ≡ true = ap is_truth (sym typed) ∙ sym c.is_bool.ensures ∙ c.if-not-is_bool.false in
    let exact : c.verdict.result ≡ verdict_in facts u = subst (λ t. c.verdict.result ≡ verdict_in facts (bound_of t)) c.tree-2.ensures c.verdict.ensures.exact in
    let holds : VerdictHolds facts u c.verdict.result = subst (λ t. VerdictHolds facts (bound_of t) c.verdict.result) c.tree-2.ensures c.verdict.ensures.holds in
    let r = c.all_rows-in-EveryRow.result in
    let mask : IfOk r (λ m. m ≡ replicate facts.rows true) = subst (λ n. IfOk r (λ m. m ≡ replicate n true)) c.rows-in-EveryRow.ensures c.all_rows-in-EveryRow.ensures.mask in
    let all = every_row_selected s u facts batch c.verdict.result r plan.is_plan.well_typed (subst (Over u) (sym same) plan.is_plan.over) same truth c.dtype-dtype.ensures.rows c.in-EveryRow.is exact holds mask c.all_rows-in-EveryRow.ensures.memory in
    record { mismatch = all.mismatch; not_bool = all.not_bool; rows = all.rows; faults = all.faults; sure = all.sure }

pub returns-in-Ok : goal.returns-in-Ok
returns-in-Ok g c =
    let batch = g.R.PathReader.batch c.args.reader.now in
    let plan = c.args.plan.now in
    let s = type_of plan.scope in
    let u = bound_of plan.tree in
    let facts = c.args.stats.now in
    let same : batch.type ≡ s = sym c.dtype-dtype.ensures.dtype ∙ agrees (type_of c.dtype-dtype.result.now) (type_of c.scope.result.now) c.ne.result c.ne.ensures c.if-ne.false ∙ ap type_of c.scope.ensures in
    let typed : type_of c.dtype.result.now ≡ node_type u = c.dtype.ensures ∙ ap (λ t. node_type (bound_of t)) c.tree.ensures in
    let truth : is_truth (node_type u) ≡ true = ap is_truth (sym typed) ∙ sym c.is_bool.ensures ∙ c.if-not-is_bool.false in
    let exact : c.verdict.result ≡ verdict_in facts u = subst (λ t. c.verdict.result ≡ verdict_in facts (bound_of t)) c.tree-2.ensures c.verdict.ensures.exact in
    let all = read_selected s u facts batch c.verdict.result c.in-Ok.column c.true_rows.result same truth c.in-Unknown.is exact (c.in-Ok.ensures.meaning same) (c.in-Ok.ensures.faults same) c.true_rows.ensures.mask c.true_rows.ensures.memory in
    record { mismatch = all.mismatch; not_bool = all.not_bool; rows = all.rows; faults = all.faults; sure = all.sure }

pub returns-in-Err : goal.returns-in-Err
returns-in-Err g c =
    let batch = g.R.PathReader.batch c.args.reader.now in
    let plan = c.args.plan.now in
    let s = type_of plan.scope in
    let u = bound_of plan.tree in
    let facts = c.args.stats.now in
    let same : batch.type ≡ s = sym c.dtype-dtype.ensures.dtype ∙ agrees (type_of c.dtype-dtype.result.now) (type_of c.scope.result.now) c.ne.result c.ne.ensures c.if-ne.false ∙ ap type_of c.scope.ensures in
    let typed : type_of c.dtype.result.now ≡ node_type u = c.dtype.ensures ∙ ap (λ t. node_type (bound_of t)) c.tree.ensures in
    let truth : is_truth (node_type u) ≡ true = ap is_truth (sym typed) ∙ sym c.is_bool.ensures ∙ c.if-not-is_bool.false in
    let exact : c.verdict.result ≡ verdict_in facts u = subst (λ t. c.verdict.result ≡ verdict_in facts (bound_of t)) c.tree-2.ensures c.verdict.ensures.exact in
    let all = unread_selected s u facts batch c.verdict.result c.in-Err.e same truth c.in-Unknown.is exact (c.in-Err.ensures.meaning same) (c.in-Err.ensures.faults same) in
    record { mismatch = all.mismatch; not_bool = all.not_bool; rows = all.rows; faults = all.faults; sure = all.sure }

pub scan-requires : goal.scan-requires
scan-requires g c =
    let plan = c.args.plan.now in
    let u = bound_of plan.tree in
    let facts = c.args.stats.now in
    let typed : type_of c.dtype.result.now ≡ node_type u = c.dtype.ensures ∙ ap (λ t. node_type (bound_of t)) c.tree.ensures in
    let truth : is_truth (node_type u) ≡ true = ap is_truth (sym typed) ∙ sym c.is_bool.ensures ∙ c.if-not-is_bool.false in
    let exact : c.verdict.result ≡ verdict_in facts u = subst (λ t. c.verdict.result ≡ verdict_in facts (bound_of t)) c.tree-2.ensures c.verdict.ensures.exact in
    record { allowed = λ same. c.requires.allowed same truth (sym exact ∙ c.in-Unknown.is) }
