-- Expressions and bound trees may cross threads, since what they hold may.
use Rattle.std.proofs.Crossing as heap
use Rattle.std.proofs.MapsCrossing as maps
use denote.Param.Send.{IsSend, IsSync, sendable}
use denote.Param.SendFields.{as_row_send, as_row_sync}
use Rattle.vx_dtype.proofs.dtype.DType.TheLaws.TheKnot as types
use Rattle.vx_dtype.specs.contracts.dtype.DType as DType
use Rattle.vx_dtype.proofs.names.FieldName.TheSendSync as name
use Rattle.vx_dtype.proofs.names.FieldNames.TheSendSync as names
use Rattle.vx_floats.proofs.float.Float.TheSendSync as float
use Rattle.vx_floats.specs.contracts.float.Float as Float
use Rattle.vx_value.proofs.value.Value.TheLaws.TheKnot as values
use Rattle.vx_value.specs.contracts.value.Value as Value
use Rattle.vx_fn.specs.contracts.function.ScalarFnRef as ScalarFnRef
use Rattle.vx_tree.specs.contracts.bound.BoundExpression as BoundExpression
use Rattle.vx_tree.proofs.bound.BoundExpression.TheLaws.TheKnot as bounds
use Rattle.vx_tree.specs.contracts.expression.Expression as Expression
use Rattle.vx_tree.proofs.expression.Expression.TheLaws.TheKnot as trees

-- ---- what a node holds

pub type_send : IsSend (DType.the_field).row
type_send = search (sendable, heap.crosses, names.the_send, names.the_sync, types.crosses_both) depth 40 fits 100000

pub type_sync : IsSync (DType.the_field).row
type_sync = search (sendable, heap.crosses, names.the_send, names.the_sync, types.crosses_both) depth 40 fits 100000

float_send : IsSend (Float.the_field).row
float_send = search (sendable, float.the_send, float.the_sync) depth 40 fits 100000

float_sync : IsSync (Float.the_field).row
float_sync = search (sendable, float.the_send, float.the_sync) depth 40 fits 100000

value_send : IsSend (Value.the_field).row
value_send = search (sendable, heap.crosses, float_send, float_sync, values.crosses_both) depth 40 fits 100000

value_sync : IsSync (Value.the_field).row
value_sync = search (sendable, heap.crosses, float_send, float_sync, values.crosses_both) depth 40 fits 100000

function_send : IsSend (ScalarFnRef.the_field).row
function_send = search (sendable, heap.crosses, maps.crosses, name.the_send, names.the_send, names.the_sync, type_send, type_sync, value_send, value_sync) depth 40 fits 100000

function_sync : IsSync (ScalarFnRef.the_field).row
function_sync = search (sendable, heap.crosses, maps.crosses, name.the_sync, names.the_send, names.the_sync, type_send, type_sync, value_send, value_sync) depth 40 fits 100000

-- ---- trees, alone and as fields

tree_field_send : IsSend (Expression.the_field).row
tree_field_send = trees.both_send-Expression function_send function_sync (λ h s y. heap.Arc-send _ (heap.Vec-send h s) (heap.Vec-sync h y)) (λ h s y. heap.Arc-sync _ (heap.Vec-send h s) (heap.Vec-sync h y))

tree_field_sync : IsSync (Expression.the_field).row
tree_field_sync = trees.both_sync-Expression function_send function_sync (λ h s y. heap.Arc-send _ (heap.Vec-send h s) (heap.Vec-sync h y)) (λ h s y. heap.Arc-sync _ (heap.Vec-send h s) (heap.Vec-sync h y))

pub tree_send : IsSend Expression.the_row
tree_send = as_row_send Expression.the_field tree_field_send

pub tree_sync : IsSync Expression.the_row
tree_sync = as_row_sync Expression.the_field tree_field_sync

pub bound_field_send : IsSend (BoundExpression.the_field).row
bound_field_send = bounds.both_send-BoundExpression type_send type_sync function_send function_sync (λ h s y. heap.Arc-send _ (heap.Vec-send h s) (heap.Vec-sync h y)) (λ h s y. heap.Arc-sync _ (heap.Vec-send h s) (heap.Vec-sync h y))

pub bound_field_sync : IsSync (BoundExpression.the_field).row
bound_field_sync = bounds.both_sync-BoundExpression type_send type_sync function_send function_sync (λ h s y. heap.Arc-send _ (heap.Vec-send h s) (heap.Vec-sync h y)) (λ h s y. heap.Arc-sync _ (heap.Vec-send h s) (heap.Vec-sync h y))

pub bound_send : IsSend BoundExpression.the_row
bound_send = as_row_send BoundExpression.the_field bound_field_send

pub bound_sync : IsSync BoundExpression.the_row
bound_sync = as_row_sync BoundExpression.the_field bound_field_sync
