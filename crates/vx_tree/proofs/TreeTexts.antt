-- The lines of a node's children, over any type that is seen as a tree.
use Rattle.std.proofs.Common.{◌≡◌, ℕ, suc, ◌+◌, ◌-◌, ◌<◌, ◌≤◌, Bool, false, List, [], ◌∷◌, ◌++◌, length, get_or, drop, map, codes, refl, sym, ap, ◌∙◌, arith, Some, append_assoc, append-nil, length-drop, eqb}
use Rattle.std.proofs.lemmas.List.{at_drop_more, at_drop_all}
use Rattle.std.proofs.lemmas.Bool.Decides.{nat_tests}
use Rattle.vx_fn.specs.Functions.{Function}
use Rattle.vx_fn.specs.Texts.{function_text}
use Rattle.vx_tree.specs.Nodes.{function_at, children_of, count_of}
use Rattle.vx_tree.specs.TreeTexts.{branch, bar, called, is_last, lines_below, child_lines, on_new_lines, text_behind}
use Rattle.vx_tree.specs.Trees.{Tree, call, Trees, tree}
use Rattle.vx_tree.specs.Views.{trees_from}
use Rattle.vx_tree.proofs.Seen.{function_node}

-- ---- lines behind a prefix

on_new_lines-append : (p : List ℕ) (xs ys : List (List ℕ)) → on_new_lines p (xs ++ ys) ≡ on_new_lines p xs ++ on_new_lines p ys
on_new_lines-append p [] ys = refl
on_new_lines-append p (x ∷ xs) ys = rw (on_new_lines-append p xs ys) (simp append_assoc)

-- what stands before each line is a part of the prefix
on_new_lines-before : (p b : List ℕ) (xs : List (List ℕ)) → on_new_lines p (map (λ line. b ++ line) xs) ≡ on_new_lines (p ++ b) xs
on_new_lines-before p b [] = refl
on_new_lines-before p b (x ∷ xs) = rw (on_new_lines-before p b xs) (simp append_assoc)

-- the first child's lines, and those of the others
child_lines-first : (p : List ℕ) (name : ℕ → List ℕ) (i : ℕ) (e : Tree) (es : Trees)
    → ((codes "\n" ++ (p ++ branch (is_last es))) ++ (name i ++ codes ": ")) ++ (text_behind (p ++ bar (is_last es)) e ++ on_new_lines p (child_lines name (i + 1) es))
    ≡ on_new_lines p (child_lines name i (tree e es))
child_lines-first p name i e es =
    rw (on_new_lines-append p (map (λ line. bar (is_last es) ++ line) (lines_below e)) (child_lines name (i + 1) es), on_new_lines-before p (bar (is_last es)) (lines_below e)) (simp append_assoc)

-- ---- the children of a node, one after another

-- the lines of the children from one at an index on, of so many
abbrev pub children_text : {A : Type 0} → (A → Tree) → List ℕ → Function → ℕ → ℕ → List A → List ℕ
children_text view p f n i xs = on_new_lines p (child_lines (called f n) i (trees_from (map view xs)))

suc-not_zero : (k : ℕ) → eqb (suc k) 0 ≡ false
suc-not_zero k = grind (arith, nat_tests)

is_last-none_left : {A : Type 0} (view : A → Tree) (xs : List A) → is_last (trees_from (map view xs)) ≡ eqb (length xs) 0
is_last-none_left view [] = refl
is_last-none_left view (x ∷ xs) = sym (suc-not_zero (length xs))

last_by_index : (i n k : ℕ) → i < n → k ≡ n - (i + 1) → eqb (i + 1) n ≡ eqb k 0
last_by_index i n k lt e = grind (arith, nat_tests)

-- what is left of the children, after one more
pub children_text-turn : {A : Type 0} (view : A → Tree) (p : List ℕ) (f : Function) (n : ℕ) (done : List ℕ) (xs : List A) (i : ℕ) (x : A) (last : Bool)
    → i < length xs → x ≡ get_or xs i x → length xs ≡ n → last ≡ eqb (i + 1) n
    → (((done ++ (codes "\n" ++ (p ++ branch last))) ++ (called f n i ++ codes ": ")) ++ text_behind (p ++ bar last) (view x)) ++ children_text view p f n (i + 1) (drop (i + 1) xs)
    ≡ done ++ children_text view p f n i (drop i xs)
children_text-turn {A} view p f n done xs i x last lt is all e =
    let rest = drop (i + 1) xs in
    let left : length rest ≡ n - (i + 1) = omega (arith, length-drop (i + 1) xs) in
    let same : last ≡ is_last (trees_from (map view rest)) = e ∙ last_by_index i n (length rest) (omega arith) left ∙ sym (is_last-none_left view rest) in
    let line : Bool → List ℕ = λ b. (codes "\n" ++ (p ++ branch b)) ++ (called f n i ++ codes ": ") in
    let grouped : (((done ++ (codes "\n" ++ (p ++ branch last))) ++ (called f n i ++ codes ": ")) ++ text_behind (p ++ bar last) (view x)) ++ children_text view p f n (i + 1) rest
    ≡ done ++ (line last ++ (text_behind (p ++ bar last) (view x) ++ children_text view p f n (i + 1) rest)) = simp append_assoc in
    grouped
    ∙ ap (λ b. done ++ (line b ++ (text_behind (p ++ bar b) (view x) ++ children_text view p f n (i + 1) rest))) same
    ∙ ap (λ t. done ++ t) (child_lines-first p (called f n) i (view x) (trees_from (map view rest)))
    ∙ ap (λ (y : A). done ++ children_text view p f n i (y ∷ rest)) is
    ∙ ap (λ t. done ++ t) (sym (at_drop_more (children_text view p f n i) xs i x lt))

-- once no child is left
pub children_text-end : {A : Type 0} (view : A → Tree) (p : List ℕ) (f : Function) (n i : ℕ) (xs : List A) (done : List ℕ) → length xs ≤ i → done ≡ done ++ children_text view p f n i (drop i xs)
children_text-end view p f n i xs done h = sym (append-nil done) ∙ ap (λ t. done ++ t) (sym (at_drop_all (children_text view p f n i) xs i h))

-- ---- the text of a node, over its children

count_of-trees_from : {A : Type 0} (view : A → Tree) (xs : List A) → count_of (trees_from (map view xs)) ≡ length xs
count_of-trees_from view [] = refl
count_of-trees_from view (x ∷ xs) = omega (arith, count_of-trees_from view xs)

pub text_behind-node : {A : Type 0} (view : A → Tree) (p : List ℕ) (e : Tree) (f : Function) (xs : List A) → Some f ≡ function_at e → trees_from (map view xs) ≡ children_of e
    → function_text f ++ children_text view p f (length xs) 0 xs ≡ text_behind p e
text_behind-node view p e f xs h is =
    ap (λ n. function_text f ++ children_text view p f n 0 xs) (sym (count_of-trees_from view xs))
    ∙ ap (λ es. text_behind p (call f es)) is ∙ ap (text_behind p) (sym (function_node e f h))
