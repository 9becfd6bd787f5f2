use Rattle.std.proofs.Common.{◌≡◌, ◌∙◌, Err, Ok, sym, subst, rules}
use Rattle.vx_fn.specs.Views.{function_of}
use Rattle.vx_tree.specs.Nodes.{bound_children_of}
use Rattle.vx_tree.specs.Views.{bound_of}
use Rattle.vx_places.specs.Walked.{IsSeen, SaysOrFaults}
use Rattle.vx_places.proofs.Evaluated.{applied, quiet_node}
use Rattle.vx_places.proofs.Faulted.{seen_quiet}
use Rattle.vx_places.proofs.values.value_of.Goals as goal

pub returns-in_err-apply_bound : goal.returns-in_err-apply_bound
returns-in_err-apply_bound c =
    let b = bound_of c.args.b.now in
    let batch = c.args.batch.now in
    let r = c.in_err-apply_bound.field-0.0 in
    let quiet = seen_quiet batch.rows (bound_children_of b) c.args.below.items c.requires.seen in
    let says = applied b batch (Err r) c.requires.typed c.requires.over quiet (c.in_err-apply_bound.ensures.meaning c.requires.over) in
    let is : c.from_residual-in_err-apply_bound.result ≡ Err r = search rules in
    subst (SaysOrFaults (IsSeen batch.rows b) batch.rows b) (sym is) says

pub returns-then-may_fault : goal.returns-then-may_fault
returns-then-may_fault c =
    let b = bound_of c.args.b.now in
    let batch = c.args.batch.now in
    let quiet = seen_quiet batch.rows (bound_children_of b) c.args.below.items c.requires.seen in
    applied b batch (Ok c.in_ok-apply_bound.field-0) c.requires.typed c.requires.over quiet (c.in_ok-apply_bound.ensures.meaning c.requires.over)

pub returns : goal.returns
returns c =
    let b = bound_of c.args.b.now in
    let rows = c.args.batch.now.rows in
    (quiet_node b (function_of c.in-Some.scalar_fn.now) rows c.in-Some.ensures (sym c.may_fault.ensures ∙ c.if-may_fault.false) (seen_quiet rows (bound_children_of b) c.args.below.items c.requires.seen), tt)
