-- A well-typed tree over a scope is what its source is bound to, and the test of scope roots decides.
use Rattle.std.proofs.Common.{◌≡◌, refl, sym, ap, ◌∙◌}
use Rattle.std.specs.Prelude.{Ok}
use Rattle.std.specs.Bool.{Decides}
use Rattle.std.proofs.lemmas.Bool.Decides.{Decides-and}
use Rattle.vx_value.specs.Deciding.{equal_type-Decides}
use Rattle.vx_value.specs.Types.{LogicalType}
use Rattle.vx_tree.specs.Binding.{node_over, binding, each_binding}
use Rattle.vx_tree.specs.Nodes.{is_over, are_over}
use Rattle.vx_tree.specs.Trees.{BoundTree, scope, node, BoundTrees, no_bound, bound, unbound, unbound_each, on_ok, WellTyped, EachWellTyped, Over, EachOver}

mutual
  pub binding-unbound : (b : BoundTree) (s : LogicalType) → WellTyped b → Over b s → binding (unbound b) s ≡ Ok b
  binding-unbound (scope t) s w o = ap (λ u. Ok (scope u)) (sym o)
  binding-unbound (node t f bs) s w o = ap (on_ok (node_over f)) (each_binding-unbound bs s w.2 o) ∙ ap (on_ok (λ u. Ok (node u f bs))) w.0

  pub each_binding-unbound : (bs : BoundTrees) (s : LogicalType) → EachWellTyped bs → EachOver bs s → each_binding (unbound_each bs) s ≡ Ok bs
  each_binding-unbound no_bound s w o = refl
  each_binding-unbound (bound b bs) s w o = rw (binding-unbound b s w.0 o.0, each_binding-unbound bs s w.1 o.1) refl

mutual
  pub is_over-Decides : (b : BoundTree) (s : LogicalType) → Decides (is_over b s) (Over b s)
  is_over-Decides (scope t) s = equal_type-Decides t s
  is_over-Decides (node t f bs) s = are_over-Decides bs s

  pub are_over-Decides : (bs : BoundTrees) (s : LogicalType) → Decides (are_over bs s) (EachOver bs s)
  are_over-Decides no_bound s = (λ e. tt, λ e. refl)
  are_over-Decides (bound b bs) s = Decides-and _ _ (is_over-Decides b s) (are_over-Decides bs s)
