use Rattle.std.proofs.Common.{◌≡◌, ℕ, zero, suc, ◌≤◌, List, [], ◌∷◌, ◌++◌, length, min, map, drop, drop_of_length-le, append-nil, Ok, refl, sym, ap, ◌∙◌, arith}
use Rattle.vx_value.specs.Types.{Name}
use Rattle.vx_tree.specs.Trees.{BoundTree, no_bound}
use Rattle.vx_tree.specs.Views.{bound_of, bounds_of}
use Rattle.vx_tree.specs.declared.bound.BoundExpression.{BoundExpression}
use Rattle.vx_partition.specs.Packing.{holes_of}
use Rattle.vx_partition.proofs.holes.holes_of.Goals as goal

none_left : (from : BoundTree) (names : List Name) → holes_of from names no_bound ≡ []
none_left from [] = refl
none_left from (a ∷ names) = refl

ends : (from : BoundTree) (names : List Name) (ps : List BoundExpression) (i : ℕ) → min (length names) (length ps) ≤ i → holes_of from (drop i names) (bounds_of (drop i ps)) ≡ []
ends from [] ps i h = ap (λ ns. holes_of from ns (bounds_of (drop i ps))) (drop_of_length-le [] (omega arith))
ends from (a ∷ names) [] i h = ap (λ bs. holes_of from (drop i (a ∷ names)) (bounds_of bs)) (drop_of_length-le [] (omega arith)) ∙ none_left from (drop i (a ∷ names))
ends from (a ∷ names) (p ∷ ps) zero h = absurd (omega arith)
ends from (a ∷ names) (p ∷ ps) (suc i) h = ends from names ps i (omega arith)

pub returns : goal.returns
returns c =
    let l = c.loop-i in
    let end = ends (bound_of c.args.from.now) c.args.names.now c.args.pieces.now l.i (omega (arith, ap length c.as_slice-names.ensures)) in
    ap (λ ns. Ok (holes_of (bound_of c.args.from.now) ns (bounds_of c.args.pieces.now))) (sym c.as_slice-names.ensures) ∙ ap (λ hs. Ok hs) (sym (sym (append-nil (map bound_of l.holes.items)) ∙ ap (λ hs. map bound_of l.holes.items ++ hs) (sym end) ∙ l.invariant))
