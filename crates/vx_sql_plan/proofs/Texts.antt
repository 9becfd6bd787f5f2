-- Texts that a list holds, joined.
use Rattle.std.proofs.Common.{◌≡◌, ℕ, false, List, [], ◌∷◌, ◌++◌, length, refl, ap, ◌∙◌, map, flat_map, string_bytes, String, codes}
use Rattle.std.specs.Prelude.{◌==◌}
use Rattle.std.specs.List.{join_by}
use Rattle.std.specs.declared.alloc.Global.{Global}
use Rattle.vx_sql_plan.specs.Statements.{columns_text, where_text}

flat_map-map : (separator : List ℕ) (xs : List (String Global)) → flat_map (λ x. separator ++ string_bytes x) xs ≡ flat_map (λ t. separator ++ t) (map string_bytes xs)
flat_map-map separator [] = refl
flat_map-map separator (x ∷ xs) = ap (λ t. (separator ++ string_bytes x) ++ t) (flat_map-map separator xs)

pub joined : (separator : List ℕ) (xs : List (String Global)) → join_by string_bytes separator xs ≡ join_by (λ t. t) separator (map string_bytes xs)
joined separator [] = refl
joined separator (x ∷ xs) = ap (λ t. string_bytes x ++ t) (flat_map-map separator xs)

-- ---- columns

pub some_columns : (xs : List (String Global)) (text : List ℕ) → (length xs == 0) ≡ false → text ≡ join_by string_bytes (codes ", ") xs → text ≡ columns_text (map string_bytes xs)
some_columns [] text h is = cc
some_columns (x ∷ xs) text h is = is ∙ joined (codes ", ") (x ∷ xs)

-- ---- conditions

pub some_conditions : (xs : List (String Global)) (text : List ℕ) → (length xs == 0) ≡ false → text ≡ join_by string_bytes (codes " AND ") xs → codes " WHERE " ++ text ≡ where_text (map string_bytes xs)
some_conditions [] text h is = cc
some_conditions (x ∷ xs) text h is = ap (λ t. codes " WHERE " ++ t) (is ∙ joined (codes " AND ") (x ∷ xs))
