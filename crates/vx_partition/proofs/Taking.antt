-- The holes of one more partition.
use Rattle.std.proofs.Common.{◌≡◌, ℕ, ◌+◌, ◌<◌, List, [], ◌∷◌, ◌++◌, length, get_or, drop, drop-cons, add-one, map, Vec, refl, sym, ap, ◌∙◌, append_assoc}
use Rattle.std.proofs.lemmas.List.{map-append}
use Rattle.vx_value.specs.Types.{Name}
use Rattle.vx_tree.specs.Nodes.{bound_children_of}
use Rattle.vx_tree.specs.Trees.{BoundTree, node_type}
use Rattle.vx_tree.specs.Views.{bound_of, bounds_of}
use Rattle.vx_tree.specs.declared.bound.BoundExpression.{BoundExpression}
use Rattle.vx_partition.specs.Filling.{holes_seen}
use Rattle.vx_partition.specs.Packing.{typed_item, holes_of, all_holes}

drop_next : {X : Type 0} (xs : List X) (i : ℕ) (x : X) → i < length xs → x ≡ get_or xs i x → drop i xs ≡ x ∷ drop (i + 1) xs
drop_next xs i x h is = rw (add-one, drop-cons xs i x h, ← is) refl

-- the partition's holes, and those of the partitions behind it
holes_next : (root : BoundTree) (names : List Name) (own : List (List Name)) (ps : List BoundExpression) (i : ℕ) (a : Name) (ns : List Name) (p : BoundExpression)
    → i < length names → a ≡ get_or names i a → i < length own → ns ≡ get_or own i ns → i < length ps → p ≡ get_or ps i p
    → all_holes root (drop i names) (drop i own) (bounds_of (drop i ps))
    ≡ holes_of (typed_item (node_type (bound_of p)) a root) ns (bound_children_of (bound_of p)) ∷ all_holes root (drop (i + 1) names) (drop (i + 1) own) (bounds_of (drop (i + 1) ps))
holes_next root names own ps i a ns p h is k own_is l p_is =
    ap (λ x. all_holes root x (drop i own) (bounds_of (drop i ps))) (drop_next names i a h is)
    ∙ ap (λ x. all_holes root (a ∷ drop (i + 1) names) x (bounds_of (drop i ps))) (drop_next own i ns k own_is)
    ∙ ap (λ x. all_holes root (a ∷ drop (i + 1) names) (ns ∷ drop (i + 1) own) (bounds_of x)) (drop_next ps i p l p_is)

pub holes_on : {Z : Type 0} (root : BoundTree) (names : List Name) (own : List (List Name)) (ps : List BoundExpression) (i : ℕ) (a : Name) (ns : List Name) (p : BoundExpression) (made new : List (Vec BoundExpression Z)) (v : Vec BoundExpression Z) (all : List (List BoundTree))
    → i < length names → a ≡ get_or names i a → i < length own → ns ≡ get_or own i ns → i < length ps → p ≡ get_or ps i p
    → new ≡ made ++ v ∷ [] → map bound_of v.items ≡ holes_of (typed_item (node_type (bound_of p)) a root) ns (bound_children_of (bound_of p))
    → holes_seen made ++ all_holes root (drop i names) (drop i own) (bounds_of (drop i ps)) ≡ all
    → holes_seen new ++ all_holes root (drop (i + 1) names) (drop (i + 1) own) (bounds_of (drop (i + 1) ps)) ≡ all
holes_on root names own ps i a ns p made new v all h is k own_is l p_is put filled so =
    let rest = all_holes root (drop (i + 1) names) (drop (i + 1) own) (bounds_of (drop (i + 1) ps)) in
    ap (λ l. holes_seen l ++ rest) put ∙ ap (λ l. l ++ rest) (map-append (λ w. map bound_of w.items) made (v ∷ [])) ∙ append_assoc (holes_seen made) (map bound_of v.items ∷ []) rest
    ∙ ap (λ hs. holes_seen made ++ (hs ∷ rest)) filled ∙ ap (λ l. holes_seen made ++ l) (sym (holes_next root names own ps i a ns p h is k own_is l p_is)) ∙ so
