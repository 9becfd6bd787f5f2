use Rattle.std.proofs.Common.{◌≡◌, ◌∙◌, Err, ap, sym, subst}
use Rattle.std.specs.Prelude.{IsErr, IsSome}
use Rattle.vx_value.specs.Views.{type_of}
use Rattle.vx_tree.specs.Trees.{typed}
use Rattle.vx_tree.specs.Views.{tree_of}
use Rattle.vx_places.specs.declared.place.Place.{Place}
use Rattle.vx_places.specs.Nodes.{node_at}
use Rattle.vx_places.specs.Refusals.{IsFirstRefusal}
use Rattle.vx_places.proofs.Places.{from_start, placed_at, placed_found, placed_memory}
use Rattle.vx_places.proofs.Refused.{refused, is_refused, leads}
use Rattle.vx_places.proofs.refusals.first_refusal_at.Goals as goal

pub returns-in-Err-clause-found : goal.returns-in-Err-clause-found
returns-in-Err-clause-found c =
    let s = type_of c.args.scope.now in
    let e = tree_of c.args.e.now in
    let path = c.push_type.new.path.items in
    let r = c.in-Err.refusal in
    let at = from_start (IsFirstRefusal s e) c.new-path.result.items path r c.new-path.ensures.items c.in-Err.ensures.place in
    placed_found path r (IsFirstRefusal s e path r) (IsErr (typed e s)) c.placed.result c.placed.ensures (λ h. is_refused h) at

pub returns-in-Err-clause-refusal : goal.returns-in-Err-clause-refusal
returns-in-Err-clause-refusal c =
    let s = type_of c.args.scope.now in
    let e = tree_of c.args.e.now in
    let path = c.push_type.new.path.items in
    let r = c.in-Err.refusal in
    let at = from_start (IsFirstRefusal s e) c.new-path.result.items path r c.new-path.ensures.items c.in-Err.ensures.place in
    placed_at path r (IsFirstRefusal s e path r) (λ (p : Place). typed e s ≡ Err p.refusal) c.placed.result c.placed.ensures (λ h p same_path same. refused h ∙ ap Err (sym same)) at

pub returns-in-Err-clause-first : goal.returns-in-Err-clause-first
returns-in-Err-clause-first c =
    let s = type_of c.args.scope.now in
    let e = tree_of c.args.e.now in
    let path = c.push_type.new.path.items in
    let r = c.in-Err.refusal in
    let at = from_start (IsFirstRefusal s e) c.new-path.result.items path r c.new-path.ensures.items c.in-Err.ensures.place in
    placed_at path r (IsFirstRefusal s e path r) (λ (p : Place). IsFirstRefusal s e p.path.items p.refusal) c.placed.result c.placed.ensures
    (λ h p same_path same. subst (λ xs. IsFirstRefusal s e xs p.refusal) (sym same_path) (subst (IsFirstRefusal s e path) (sym same) h)) at

pub returns-in-Err-clause-node : goal.returns-in-Err-clause-node
returns-in-Err-clause-node c =
    let s = type_of c.args.scope.now in
    let e = tree_of c.args.e.now in
    let path = c.push_type.new.path.items in
    let r = c.in-Err.refusal in
    let at = from_start (IsFirstRefusal s e) c.new-path.result.items path r c.new-path.ensures.items c.in-Err.ensures.place in
    placed_at path r (IsFirstRefusal s e path r) (λ (p : Place). IsSome (node_at p.path.items e)) c.placed.result c.placed.ensures (λ h p same_path same. subst (λ xs. IsSome (node_at xs e)) (sym same_path) (leads h)) at

pub returns-in-Err-clause-memory : goal.returns-in-Err-clause-memory
returns-in-Err-clause-memory c = placed_memory c.push_type.new.path.items c.in-Err.refusal c.placed.result c.placed.ensures
