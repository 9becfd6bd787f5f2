use denote.Param.Send.{sendable}
use Rattle.vx_expr.proofs.Crossing.{tree_send, tree_sync, bound_send, bound_sync}
use Rattle.vx_expr.proofs.threads.expressions_are_send_and_sync.Goals as goal

pub assert_send_sync-requires-send-T : goal.assert_send_sync-requires-send-T
assert_send_sync-requires-send-T c κs = search (sendable, tree_send) depth 20

pub assert_send_sync-requires-sync-T : goal.assert_send_sync-requires-sync-T
assert_send_sync-requires-sync-T c κs = search (sendable, tree_sync) depth 20

pub assert_send_sync-requires-2-send-T : goal.assert_send_sync-requires-2-send-T
assert_send_sync-requires-2-send-T c κs = search (sendable, bound_send) depth 20

pub assert_send_sync-requires-2-sync-T : goal.assert_send_sync-requires-2-sync-T
assert_send_sync-requires-2-sync-T c κs = search (sendable, bound_sync) depth 20
