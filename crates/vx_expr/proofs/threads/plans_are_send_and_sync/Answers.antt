use denote.Param.Send.{IsSend, IsSync, sendable}
use Rattle.std.proofs.Crossing as heap
use Rattle.vx_dtype.specs.contracts.names.FieldName as FieldName
use Rattle.vx_dtype.proofs.names.FieldName.TheSendSync as name
use Rattle.vx_dtype.proofs.names.FieldNames.TheSendSync as names
use Rattle.vx_value.specs.contracts.field_path_set.FieldPathSet as FieldPathSet
use Rattle.vx_value.proofs.field_path_set.FieldPathSet.TheSendSync as paths
use Rattle.vx_partition.specs.contracts.partitioned.BoundPartitionedExpr as BoundPartitionedExpr
use Rattle.vx_scan.specs.contracts.planned.ScanPlan as ScanPlan
use Rattle.vx_expr.proofs.Crossing.{type_send, type_sync, bound_send, bound_sync, bound_field_send, bound_field_sync}
use Rattle.vx_expr.proofs.threads.plans_are_send_and_sync.Goals as goal

-- ---- what a plan holds

paths_send : IsSend FieldPathSet.the_row
paths_send = search (sendable, heap.crosses, paths.the_send) depth 40 fits 100000

paths_sync : IsSync FieldPathSet.the_row
paths_sync = search (sendable, heap.crosses, paths.the_sync) depth 40 fits 100000

split_send : IsSend (BoundPartitionedExpr.the_row FieldName.the_row)
split_send = search (sendable, heap.crosses, bound_send, bound_field_send, name.the_send, names.the_send) depth 40 fits 100000

split_sync : IsSync (BoundPartitionedExpr.the_row FieldName.the_row)
split_sync = search (sendable, heap.crosses, bound_sync, bound_field_sync, name.the_sync, names.the_sync) depth 40 fits 100000

plan_send : IsSend ScanPlan.the_row
plan_send = search (sendable, heap.crosses, type_send, bound_field_send, split_send, paths_send) depth 40 fits 100000

plan_sync : IsSync ScanPlan.the_row
plan_sync = search (sendable, heap.crosses, type_sync, bound_field_sync, split_sync, paths_sync) depth 40 fits 100000

pub assert_send_sync-requires-send-T : goal.assert_send_sync-requires-send-T
assert_send_sync-requires-send-T c κs = search (sendable, plan_send) depth 20

pub assert_send_sync-requires-sync-T : goal.assert_send_sync-requires-sync-T
assert_send_sync-requires-sync-T c κs = search (sendable, plan_sync) depth 20
