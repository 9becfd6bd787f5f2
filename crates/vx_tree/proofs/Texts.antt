-- The texts of lists of nodes, over any type that is seen as a tree.
use Rattle.std.proofs.Common.{◌≡◌, ◌≢◌, ℕ, zero, suc, ◌+◌, ◌<◌, ◌≤◌, List, [], ◌∷◌, ◌++◌, length, get_or, drop, map, codes, refl, sym, ap, ◌∙◌, arith, Some, append_assoc}
use Rattle.std.proofs.lemmas.List.{at_drop_more, at_drop_all}
use Rattle.std.proofs.lemmas.Bool.Decides.{nat_tests}
use Rattle.vx_value.specs.Types.{Name}
use Rattle.vx_fn.specs.Functions.{Function, arity_of}
use Rattle.vx_fn.specs.Texts.{node_sql, own_sql, call_sql, named_texts, pairs_sql}
use Rattle.vx_tree.specs.Nodes.{function_at, children_of}
use Rattle.vx_tree.specs.Texts.{sql, sqls, texts, pair_sql}
use Rattle.vx_tree.specs.Trees.{Tree}
use Rattle.vx_tree.specs.Views.{trees_from}
use Rattle.vx_tree.proofs.Seen.{function_node}

pub length-texts : {A : Type 0} (view : A → Tree) (xs : List A) → length (texts view xs) ≡ length xs
length-texts view [] = refl
length-texts view (x ∷ xs) = omega (arith, length-texts view xs)

pub get_or-texts : {A : Type 0} (view : A → Tree) (xs : List A) (i : ℕ) (x : A) → i < length xs → x ≡ get_or xs i x → sql (view x) ≡ get_or (texts view xs) i []
get_or-texts view [] i x h is = absurd (omega arith)
get_or-texts view (y ∷ xs) zero x h is = ap (λ z. sql (view z)) is
get_or-texts view (y ∷ xs) (suc i) x h is = get_or-texts view xs i x (omega arith) is

-- ---- texts behind names

pub length-named_texts : (names : List Name) (cs : List (List ℕ)) → length cs ≡ length names → length (named_texts names cs) ≡ length cs
length-named_texts [] [] h = refl
length-named_texts [] (c ∷ cs) h = absurd (omega arith)
length-named_texts (a ∷ names) [] h = absurd (omega arith)
length-named_texts (a ∷ names) (c ∷ cs) h = omega (arith, length-named_texts names cs (omega arith))

pub get_or-named_texts : (names : List Name) (cs : List (List ℕ)) (i : ℕ) (a : Name) → i < length names → i < length cs → a ≡ get_or names i a
    → a ++ (codes ": " ++ get_or cs i []) ≡ get_or (named_texts names cs) i []
get_or-named_texts [] cs i a h k is = absurd (omega arith)
get_or-named_texts (b ∷ names) [] i a h k is = absurd (omega arith)
get_or-named_texts (b ∷ names) (c ∷ cs) zero a h k is = ap (λ x. x ++ (codes ": " ++ c)) is
get_or-named_texts (b ∷ names) (c ∷ cs) (suc i) a h k is = get_or-named_texts names cs i a (omega arith) (omega arith) is

-- ---- conditions and values in turn

pairs-drop : (cs : List (List ℕ)) (i j : ℕ) → j ≡ i + 2 → i + 1 < length cs → pair_sql cs i ++ pairs_sql (drop j cs) ≡ pairs_sql (drop i cs)
pairs-drop cs i j e lt =
    let next : i + 1 + 1 ≡ j = omega arith in
    let here : List ℕ → List ℕ = λ rest. codes " WHEN " ++ (get_or cs i [] ++ (codes " THEN " ++ (get_or cs (i + 1) [] ++ rest))) in
    let grouped : pair_sql cs i ++ pairs_sql (drop j cs) ≡ here (pairs_sql (drop j cs)) = simp append_assoc in
    grouped ∙ ap (λ k. here (pairs_sql (drop k cs))) (sym next) ∙ sym (at_drop_more (λ rest. pairs_sql (get_or cs i [] ∷ rest)) cs (i + 1) [] lt) ∙ sym (at_drop_more pairs_sql cs i [] (omega arith))

pub pairs_sql-turn : (done : List ℕ) (cs : List (List ℕ)) (i j : ℕ) → j ≡ i + 2 → i + 1 < length cs → (done ++ pair_sql cs i) ++ pairs_sql (drop j cs) ≡ done ++ pairs_sql (drop i cs)
pairs_sql-turn done cs i j e lt = append_assoc done _ _ ∙ ap (λ t. done ++ t) (pairs-drop cs i j e lt)

pairs_sql-last : (cs : List (List ℕ)) (i : ℕ) → length cs ≡ i + 1 → pairs_sql (drop i cs) ≡ codes " ELSE " ++ get_or cs i []
pairs_sql-last cs i h = at_drop_more pairs_sql cs i [] (omega arith) ∙ at_drop_all (λ rest. pairs_sql (get_or cs i [] ∷ rest)) cs (i + 1) (omega arith)

pub pairs_sql-else : (done : List ℕ) (cs : List (List ℕ)) (i k : ℕ) → k ≡ i → length cs ≡ i + 1 → (done ++ codes " ELSE ") ++ get_or cs k [] ≡ done ++ pairs_sql (drop i cs)
pairs_sql-else done cs i k e h = append_assoc done _ _ ∙ ap (λ t. done ++ t) (ap (λ j. codes " ELSE " ++ get_or cs j []) e ∙ sym (pairs_sql-last cs i h))

pub pairs_sql-none : (cs : List (List ℕ)) (i : ℕ) → length cs ≤ i → pairs_sql (drop i cs) ≡ []
pairs_sql-none cs i h = at_drop_all pairs_sql cs i h
