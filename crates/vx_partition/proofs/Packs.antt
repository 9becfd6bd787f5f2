-- One more group is packed.
use Rattle.std.proofs.Common.{◌≡◌, ℕ, List, [], ◌∷◌, ◌++◌, map, Vec, sym, ap, ◌∙◌, append_assoc}
use Rattle.vx_value.specs.Types.{Name}
use Rattle.vx_tree.specs.Trees.{bound}
use Rattle.vx_tree.specs.Views.{bound_of, bounds_of}
use Rattle.vx_tree.specs.declared.bound.BoundExpression.{BoundExpression}
use Rattle.vx_partition_laws.specs.Pieces.{Group}
use Rattle.vx_partition_laws.specs.Partitions.{piece_names, partition, partitions}
use Rattle.vx_partition.specs.Packing.{all_names}
use Rattle.vx_partition.proofs.Filling.{joined_with, with_last, with_none}
use Rattle.vx_partition.proofs.Grouping.{seen}

module _ {A Z : Type 0} (text : A → List ℕ) (all : List (Group A)) where
  -- what is packed so far, and the groups that are left
  pub record PackedSo (keys : List A) (names : List (List Name)) (parts : List BoundExpression) (rest : List (A × Vec BoundExpression Z)) : Type 0 where
    pub keys_are : keys ++ map (λ g. g.0) (seen rest) ≡ map (λ g. g.0) all
    pub names_are : names ++ all_names text (seen rest) ≡ all_names text all
    pub parts_are : joined_with parts (partitions text (seen rest)) ≡ partitions text all

  pub packs_on : (keys more_keys : List A) (names more_names : List (List Name)) (parts more_parts : List BoundExpression) (rest left : List (A × Vec BoundExpression Z)) (a : A) (v : Vec BoundExpression Z) (own : List Name) (p : BoundExpression)
      → rest ≡ (a, v) ∷ left → more_keys ≡ keys ++ a ∷ [] → more_names ≡ names ++ own ∷ [] → more_parts ≡ parts ++ p ∷ []
      → own ≡ piece_names (text a) 0 (map bound_of v.items) → bound_of p ≡ partition text (a, map bound_of v.items)
      → PackedSo keys names parts rest → PackedSo more_keys more_names more_parts left
  packs_on keys more_keys names more_names parts more_parts rest left a v own p next key_put name_put part_put own_is p_is so = record {
    keys_are = ap (λ l. l ++ map (λ g. g.0) (seen left)) key_put ∙ append_assoc keys (a ∷ []) (map (λ g. g.0) (seen left)) ∙ ap (λ r. keys ++ map (λ g. g.0) (seen r)) (sym next) ∙ so.keys_are;
    names_are = ap (λ l. l ++ all_names text (seen left)) name_put ∙ append_assoc names (own ∷ []) (all_names text (seen left))
        ∙ ap (λ n. names ++ (n ∷ all_names text (seen left))) own_is ∙ ap (λ r. names ++ all_names text (seen r)) (sym next) ∙ so.names_are;
    parts_are = ap (λ l. joined_with l (partitions text (seen left))) part_put ∙ with_last parts p (partitions text (seen left))
        ∙ ap (λ b. joined_with parts (bound b (partitions text (seen left)))) p_is ∙ ap (λ r. joined_with parts (partitions text (seen r))) (sym next) ∙ so.parts_are;
  }

  pub packs_end : (keys : List A) (names : List (List Name)) (parts : List BoundExpression) (rest : List (A × Vec BoundExpression Z)) → rest ≡ [] → PackedSo keys names parts rest → bounds_of parts ≡ partitions text all
  packs_end keys names parts rest e so = sym (with_none parts) ∙ ap (λ r. joined_with parts (partitions text (seen r))) (sym e) ∙ so.parts_are
