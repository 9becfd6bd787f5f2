use Rattle.std.proofs.Common.{◌≡◌, ◌∙◌, Err, ap, sym, subst, refl}
use Rattle.std.specs.Prelude.{IsErr, IsSome}
use Rattle.vx_tree.specs.Trees.{unbound}
use Rattle.vx_tree.specs.Views.{bound_of}
use Rattle.vx_eval.specs.Evaluation.{evaluation}
use Rattle.vx_places.specs.declared.place.Place.{Place}
use Rattle.vx_places.specs.Faults.{IsFirstFault}
use Rattle.vx_places.specs.Nodes.{node_at}
use Rattle.vx_places.proofs.Evaluated.{fails_so, never_fails}
use Rattle.vx_places.proofs.Faulted.{faulted, leads}
use Rattle.vx_places.proofs.Places.{from_start, placed_at, placed_found, placed_memory}
use Rattle.vx_places.proofs.faults.first_fault_at.Goals as goal

pub returns-in-Ok-clause-found : goal.returns-in-Ok-clause-found
returns-in-Ok-clause-found c = never_fails (bound_of c.args.b.now) c.args.batch.now c.in-Ok.ensures.seen.2.0

pub returns-in-Err-clause-found : goal.returns-in-Err-clause-found
returns-in-Err-clause-found c =
    let b = bound_of c.args.b.now in
    let batch = c.args.batch.now in
    let path = c.push_seen.new.path.items in
    let r = c.in-Err.refusal in
    let at = from_start (IsFirstFault batch.rows b) c.new-path.result.items path r c.new-path.ensures.items c.in-Err.ensures.place in
    placed_found path r (IsFirstFault batch.rows b path r) (IsErr (evaluation b batch)) c.placed.result c.placed.ensures (λ h. rw (fails_so b batch r (faulted h)) refl) at

pub returns-in-Err-clause-fault : goal.returns-in-Err-clause-fault
returns-in-Err-clause-fault c =
    let b = bound_of c.args.b.now in
    let batch = c.args.batch.now in
    let path = c.push_seen.new.path.items in
    let r = c.in-Err.refusal in
    let at = from_start (IsFirstFault batch.rows b) c.new-path.result.items path r c.new-path.ensures.items c.in-Err.ensures.place in
    placed_at path r (IsFirstFault batch.rows b path r) (λ (p : Place). evaluation b batch ≡ Err p.refusal) c.placed.result c.placed.ensures (λ h p same_path same. fails_so b batch r (faulted h) ∙ ap Err (sym same)) at

pub returns-in-Err-clause-first : goal.returns-in-Err-clause-first
returns-in-Err-clause-first c =
    let b = bound_of c.args.b.now in
    let rows = c.args.batch.now.rows in
    let path = c.push_seen.new.path.items in
    let r = c.in-Err.refusal in
    let at = from_start (IsFirstFault rows b) c.new-path.result.items path r c.new-path.ensures.items c.in-Err.ensures.place in
    placed_at path r (IsFirstFault rows b path r) (λ (p : Place). IsFirstFault rows b p.path.items p.refusal) c.placed.result c.placed.ensures
    (λ h p same_path same. subst (λ xs. IsFirstFault rows b xs p.refusal) (sym same_path) (subst (IsFirstFault rows b path) (sym same) h)) at

pub returns-in-Err-clause-node : goal.returns-in-Err-clause-node
returns-in-Err-clause-node c =
    let b = bound_of c.args.b.now in
    let rows = c.args.batch.now.rows in
    let path = c.push_seen.new.path.items in
    let r = c.in-Err.refusal in
    let at = from_start (IsFirstFault rows b) c.new-path.result.items path r c.new-path.ensures.items c.in-Err.ensures.place in
    placed_at path r (IsFirstFault rows b path r) (λ (p : Place). IsSome (node_at p.path.items (unbound b))) c.placed.result c.placed.ensures (λ h p same_path same. subst (λ xs. IsSome (node_at xs (unbound b))) (sym same_path) (leads h)) at

pub returns-in-Err-clause-memory : goal.returns-in-Err-clause-memory
returns-in-Err-clause-memory c = λ over. placed_memory c.push_seen.new.path.items c.in-Err.refusal c.placed.result c.placed.ensures
