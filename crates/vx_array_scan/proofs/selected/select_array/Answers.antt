use Rattle.std.proofs.Common.{◌≡◌, ◌≢◌, ◌∙◌, ap, refl, sym, true, false}
use Rattle.vx_value.specs.Views.{type_of}
use Rattle.vx_fn.specs.Functions.{is_truth}
use Rattle.vx_tree.specs.Trees.{node_type}
use Rattle.vx_tree.specs.Views.{bound_of}
use Rattle.vx_scan.proofs.Scanning.{agrees, differs}
use Rattle.vx_array_scan.proofs.Selecting.{both_ways}
use Rattle.vx_array_scan.proofs.selected.select_array.Goals as goal

pub returns-then-ne : goal.returns-then-ne
returns-then-ne c =
    let plan = c.args.plan.now in
    let other : c.args.batch.now.type ≢ type_of plan.scope = λ e. differs (type_of c.dtype.result.now) (type_of c.scope.result.now) c.ne.result c.ne.ensures c.if-ne.true (c.dtype.ensures ∙ e ∙ ap type_of (sym c.scope.ensures)) in
    record { mismatch = λ e. refl; not_bool = λ e no. absurd (other e); rows = λ e yes. absurd (other e) }

pub returns-then-not-is_bool : goal.returns-then-not-is_bool
returns-then-not-is_bool c =
    let plan = c.args.plan.now in
    let u = bound_of plan.tree in
    let same : c.args.batch.now.type ≡ type_of plan.scope = sym c.dtype.ensures ∙ agrees (type_of c.dtype.result.now) (type_of c.scope.result.now) c.ne.result c.ne.ensures c.if-ne.false ∙ ap type_of c.scope.ensures in
    let typed : type_of c.dtype-2.result.now ≡ node_type u = c.dtype-2.ensures ∙ ap (λ t. node_type (bound_of t)) c.tree.ensures in
    let other : is_truth (node_type u) ≡ false = ap is_truth (sym typed) ∙ sym c.is_bool.ensures ∙ c.if-not-is_bool.true in
    record { mismatch = λ e. absurd (e same); not_bool = λ e no. refl; rows = λ e yes. absurd (both_ways _ yes other) }

pub selected-requires : goal.selected-requires
selected-requires c =
    let plan = c.args.plan.now in
    sym c.dtype.ensures ∙ agrees (type_of c.dtype.result.now) (type_of c.scope.result.now) c.ne.result c.ne.ensures c.if-ne.false ∙ ap type_of c.scope.ensures

pub returns : goal.returns
returns c =
    let plan = c.args.plan.now in
    let u = bound_of plan.tree in
    let same : c.args.batch.now.type ≡ type_of plan.scope = sym c.dtype.ensures ∙ agrees (type_of c.dtype.result.now) (type_of c.scope.result.now) c.ne.result c.ne.ensures c.if-ne.false ∙ ap type_of c.scope.ensures in
    let typed : type_of c.dtype-2.result.now ≡ node_type u = c.dtype-2.ensures ∙ ap (λ t. node_type (bound_of t)) c.tree.ensures in
    let truth : is_truth (node_type u) ≡ true = ap is_truth (sym typed) ∙ sym c.is_bool.ensures ∙ c.if-not-is_bool.false in
    record { mismatch = λ e. absurd (e same); not_bool = λ e no. absurd (both_ways _ truth no); rows = λ e yes. c.selected.ensures }
