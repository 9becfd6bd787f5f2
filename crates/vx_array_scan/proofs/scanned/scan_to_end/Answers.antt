use Rattle.std.proofs.Common.{◌≡◌, ◌≢◌, ◌∙◌, sym, ap, subst, rules, Err, Some}
use Rattle.vx_dtype.specs.Returns.{ReturnsOrOom}
use Rattle.vx_dtype.specs.declared.error.VortexError.TheVariants.{OutOfMemory}
use Rattle.vx_value.specs.Paths.{minimal_paths}
use Rattle.vx_value.specs.Views.{type_of}
use Rattle.vx_tree.specs.Trees.{Over}
use Rattle.vx_tree.specs.Views.{bound_of, bounds_of}
use Rattle.vx_tree.proofs.Nodes.{length-node_types}
use Rattle.vx_eval.specs.Evaluation.{evaluation}
use Rattle.vx_query_split.specs.Splits.{split_evaluation}
use Rattle.vx_projection.specs.Kept.{kept_batch}
use Rattle.vx_projection.specs.Readers.{AreAmong}
use Rattle.vx_query_split.specs.Division.{parts_of}
use Rattle.vx_scan.proofs.Opened.{sound_of}
use Rattle.vx_scan.specs.Scans.{Scanned, planned_evaluation}
use Rattle.vx_scan.proofs.Scanning.{differs, agrees, only_memory, read_so, over_read, scanned, unread, mismatched}
use Rattle.vx_array_scan.proofs.scanned.scan_to_end.Goals as goal

pub returns-then-ne : goal.returns-then-ne
returns-then-ne g c =
    let batch = g.R.ArrayReader.batch c.args.reader.now in
    let plan = c.args.plan.now in
    let s = type_of plan.scope in
    let u = bound_of plan.tree in
    let other : batch.type ≢ s = λ e. differs (type_of c.dtype-dtype.result.now) (type_of c.scope.result.now) c.ne.result c.ne.ensures c.if-ne.true (c.dtype-dtype.ensures.dtype ∙ e ∙ ap type_of (sym c.scope.ensures)) in
    mismatched s u plan.paths (parts_of plan.split) batch other

pub read-requires : goal.read-requires
read-requires g c =
    let batch = g.R.ArrayReader.batch c.args.reader.now in
    let plan = c.args.plan.now in
    let s = type_of plan.scope in
    let u = bound_of plan.tree in
    let same : batch.type ≡ s = sym c.dtype-dtype.ensures.dtype ∙ agrees (type_of c.dtype-dtype.result.now) (type_of c.scope.result.now) c.ne.result c.ne.ensures c.if-ne.false ∙ ap type_of c.scope.ensures in
    subst (λ ps. AreAmong (minimal_paths ps) (g.R.ArrayReader.allowed c.args.reader.now)) (sym c.paths.ensures) (c.requires.allowed same).0

pub returns-in_err-batch : goal.returns-in_err-batch
returns-in_err-batch g c =
    let batch = g.R.ArrayReader.batch c.args.reader.now in
    let plan = c.args.plan.now in
    let s = type_of plan.scope in
    let u = bound_of plan.tree in
    let same : batch.type ≡ s = sym c.dtype-dtype.ensures.dtype ∙ agrees (type_of c.dtype-dtype.result.now) (type_of c.scope.result.now) c.ne.result c.ne.ensures c.if-ne.false ∙ ap type_of c.scope.ensures in
    let memory : c.in_err-batch.field-0.0 ≡ OutOfMemory = only_memory c.in_err-batch.field-0.0 (kept_batch (minimal_paths c.paths.result.now) batch) c.in_err-batch.ensures in
    let is : c.from_residual.result ≡ Err OutOfMemory = search (rules, memory) in
    subst (Scanned s u plan.paths (parts_of plan.split) batch) (sym is) (unread s u plan.paths (parts_of plan.split) batch plan.is_plan same c.dtype-dtype.ensures.rows)

pub evaluate_split_array-requires-clause-names : goal.evaluate_split_array-requires-clause-names
evaluate_split_array-requires-clause-names g c =
    let batch = g.R.ArrayReader.batch c.args.reader.now in
    let plan = c.args.plan.now in
    let s = type_of plan.scope in
    let u = bound_of plan.tree in
    let held : plan.split ≡ Some c.in-Some.split.now = sym c.in-Some.ensures in
    let good = sound_of plan.is_plan.divided _ (ap parts_of held) in
    good.counted ∙ length-node_types c.in-Some.split.now.partitions.items

pub evaluate_split_array-requires-clause-partitions : goal.evaluate_split_array-requires-clause-partitions
evaluate_split_array-requires-clause-partitions g c =
    let batch = g.R.ArrayReader.batch c.args.reader.now in
    let plan = c.args.plan.now in
    let s = type_of plan.scope in
    let u = bound_of plan.tree in
    let held : plan.split ≡ Some c.in-Some.split.now = sym c.in-Some.ensures in
    let good = sound_of plan.is_plan.divided _ (ap parts_of held) in
    good.partitions_typed

pub evaluate_split_array-requires-clause-over : goal.evaluate_split_array-requires-clause-over
evaluate_split_array-requires-clause-over g c =
    let batch = g.R.ArrayReader.batch c.args.reader.now in
    let plan = c.args.plan.now in
    let s = type_of plan.scope in
    let u = bound_of plan.tree in
    let same : batch.type ≡ s = sym c.dtype-dtype.ensures.dtype ∙ agrees (type_of c.dtype-dtype.result.now) (type_of c.scope.result.now) c.ne.result c.ne.ensures c.if-ne.false ∙ ap type_of c.scope.ensures in
    let read : kept_batch (minimal_paths plan.paths) batch ≡ c.in_ok-batch.batch = read_so batch c.in_ok-batch.batch c.paths.result.now plan.paths c.paths.ensures c.in_ok-batch.ensures in
    let held : plan.split ≡ Some c.in-Some.split.now = sym c.in-Some.ensures in
    let good = sound_of plan.is_plan.divided _ (ap parts_of held) in
    good.recombines.scopes c.in_ok-batch.batch.type (over_read u s batch c.in_ok-batch.batch plan.paths plan.is_plan.over same read)

pub evaluate_split_array-requires-clause-root : goal.evaluate_split_array-requires-clause-root
evaluate_split_array-requires-clause-root g c =
    let batch = g.R.ArrayReader.batch c.args.reader.now in
    let plan = c.args.plan.now in
    let s = type_of plan.scope in
    let u = bound_of plan.tree in
    let held : plan.split ≡ Some c.in-Some.split.now = sym c.in-Some.ensures in
    let good = sound_of plan.is_plan.divided _ (ap parts_of held) in
    good.root_typed

pub evaluate_split_array-requires-clause-joined : goal.evaluate_split_array-requires-clause-joined
evaluate_split_array-requires-clause-joined g c =
    let batch = g.R.ArrayReader.batch c.args.reader.now in
    let plan = c.args.plan.now in
    let s = type_of plan.scope in
    let u = bound_of plan.tree in
    let held : plan.split ≡ Some c.in-Some.split.now = sym c.in-Some.ensures in
    let good = sound_of plan.is_plan.divided _ (ap parts_of held) in
    good.root_over

pub returns-in-Some : goal.returns-in-Some
returns-in-Some g c =
    let batch = g.R.ArrayReader.batch c.args.reader.now in
    let plan = c.args.plan.now in
    let s = type_of plan.scope in
    let u = bound_of plan.tree in
    let same : batch.type ≡ s = sym c.dtype-dtype.ensures.dtype ∙ agrees (type_of c.dtype-dtype.result.now) (type_of c.scope.result.now) c.ne.result c.ne.ensures c.if-ne.false ∙ ap type_of c.scope.ensures in
    let read : kept_batch (minimal_paths plan.paths) batch ≡ c.in_ok-batch.batch = read_so batch c.in_ok-batch.batch c.paths.result.now plan.paths c.paths.ensures c.in_ok-batch.ensures in
    let held : plan.split ≡ Some c.in-Some.split.now = sym c.in-Some.ensures in
    let p = c.in-Some.split.now in
    let r = c.evaluate_split_array.result in
    let here = subst (λ b. ReturnsOrOom (λ x. x) r (split_evaluation p.partition_names (bounds_of p.partitions.items) (bound_of p.root) b)) (sym read) c.evaluate_split_array.ensures in
    let told = subst (λ o. ReturnsOrOom (λ x. x) r (planned_evaluation (parts_of o) u (kept_batch (minimal_paths plan.paths) batch))) (sym held) here in
    scanned s u plan.paths (parts_of plan.split) batch r plan.is_plan same c.dtype-dtype.ensures.rows told

pub returns : goal.returns
returns g c =
    let batch = g.R.ArrayReader.batch c.args.reader.now in
    let plan = c.args.plan.now in
    let s = type_of plan.scope in
    let u = bound_of plan.tree in
    let same : batch.type ≡ s = sym c.dtype-dtype.ensures.dtype ∙ agrees (type_of c.dtype-dtype.result.now) (type_of c.scope.result.now) c.ne.result c.ne.ensures c.if-ne.false ∙ ap type_of c.scope.ensures in
    let read : kept_batch (minimal_paths plan.paths) batch ≡ c.in_ok-batch.batch = read_so batch c.in_ok-batch.batch c.paths.result.now plan.paths c.paths.ensures c.in_ok-batch.ensures in
    let r = c.apply_array.result in
    let over : Over (bound_of c.tree.result.now) c.in_ok-batch.batch.type = subst (λ t. Over (bound_of t) c.in_ok-batch.batch.type) (sym c.tree.ensures) (over_read u s batch c.in_ok-batch.batch plan.paths plan.is_plan.over same read) in
    let whole = subst (λ t. ReturnsOrOom (λ x. x) r (evaluation (bound_of t) c.in_ok-batch.batch)) c.tree.ensures (c.apply_array.ensures.meaning over) in
    let here = subst (λ b. ReturnsOrOom (λ x. x) r (evaluation u b)) (sym read) whole in
    let told = subst (λ o. ReturnsOrOom (λ x. x) r (planned_evaluation (parts_of o) u (kept_batch (minimal_paths plan.paths) batch))) c.in-None.ensures here in
    scanned s u plan.paths (parts_of plan.split) batch r plan.is_plan same c.dtype-dtype.ensures.rows told
