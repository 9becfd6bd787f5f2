-- The names of one more piece, and pieces packed under as many names.
use Rattle.std.proofs.Common.{◌≡◌, ℕ, zero, suc, ◌+◌, ◌<◌, false, List, [], ◌∷◌, ◌++◌, length, drop, map, add-one, Ok, Vec, refl, sym, ap, ◌∙◌, append_assoc, arith}
use Rattle.std.specs.Map.{keys_of}
use Rattle.std.proofs.lemmas.Bool.{eq-eqb}
use Rattle.vx_value.specs.Types.{Name}
use Rattle.vx_fn.specs.Functions.{pack}
use Rattle.vx_fn.specs.Rows.{of_pack}
use Rattle.vx_fn.proofs.Rows.{fn_type-only}
use Rattle.vx_tree.specs.Binding.{node_over}
use Rattle.vx_tree.specs.Trees.{BoundTree, node, node_types, on_ok}
use Rattle.vx_tree.specs.Views.{bound_of, bounds_of}
use Rattle.vx_tree.specs.declared.bound.BoundExpression.{BoundExpression}
use Rattle.vx_partition_laws.specs.Items.{packed}
use Rattle.vx_partition_laws.specs.Partitions.{piece_name, piece_names, partition_names}
use Rattle.vx_partition.proofs.Grouping.{seen}

names_from : (text : List ℕ) (j : ℕ) (ps : List BoundExpression) (i : ℕ) → i < length ps
    → piece_names text j (map bound_of (drop i ps)) ≡ piece_name text j ∷ piece_names text (j + 1) (map bound_of (drop (suc i) ps))
names_from text j [] i h = absurd (omega arith)
names_from text j (p ∷ ps) zero h = refl
names_from text j (p ∷ ps) (suc i) h = names_from text j ps i (omega arith)

-- one more name
pub name_next : (text : List ℕ) (ps : List BoundExpression) (i : ℕ) (made new : List Name) (n : Name) (all : List Name) → i < length ps → n ≡ piece_name text i → new ≡ made ++ n ∷ []
    → made ++ piece_names text i (map bound_of (drop i ps)) ≡ all → new ++ piece_names text (i + 1) (map bound_of (drop (i + 1) ps)) ≡ all
name_next text ps i made new n all h is put so_far =
    let rest = piece_names text (i + 1) (map bound_of (drop (suc i) ps)) in
    ap (λ k. new ++ piece_names text (i + 1) (map bound_of (drop k ps))) (add-one i) ∙ ap (λ l. l ++ rest) put ∙ append_assoc made (n ∷ []) rest ∙ ap (λ m. made ++ (m ∷ rest)) is
    ∙ ap (λ l. made ++ l) (sym (names_from text i ps i h)) ∙ so_far

types_count : (ps : List BoundExpression) → length (node_types (bounds_of ps)) ≡ length ps
types_count [] = refl
types_count (p ∷ ps) = ap suc (types_count ps)

-- typing gives the struct of the pieces
pub pack_over : (names : List Name) (ps : List BoundExpression) → length names ≡ length ps → node_over (pack names false) (bounds_of ps) ≡ Ok (packed names (bounds_of ps))
pack_over names ps h =
    ap (on_ok (λ t. Ok (node t (pack names false) (bounds_of ps))))
    (fn_type-only (of_pack {names = names} {n = false} (eq-eqb _ _ (types_count ps ∙ sym h))))

-- the field names of the groups, by their keys
pub names_seen : {A Z : Type 0} (name : A → Name) (es : List (A × Vec BoundExpression Z)) → map name (keys_of es) ≡ partition_names name (seen es)
names_seen name [] = refl
names_seen name (e ∷ es) = ap (λ names. name e.0 ∷ names) (names_seen name es)

-- as many names as pieces
pub names_count : (text : List ℕ) (i : ℕ) (bs : List BoundTree) → length (piece_names text i bs) ≡ length bs
names_count text i [] = refl
names_count text i (b ∷ bs) = ap suc (names_count text (i + 1) bs)
