-- Trees in a notation: lists of them, a node over its children, and SQL as one of the notations.
use Rattle.std.proofs.Common.{◌≡◌, ◌≢◌, ℕ, zero, suc, ◌<◌, List, [], ◌∷◌, ◌==◌, length, get_or, map, false, true, refl, sym, ap, ◌∙◌, arith, Some}
use Rattle.std.specs.Prelude.{if◌then◌else◌}
use Rattle.std.proofs.lemmas.Bool.{and_from, and_left, and_right, cond-true, cond-false, eq-eqb, ne_eqb}
use Rattle.std.proofs.lemmas.List.{map-id}
use Rattle.vx_value.specs.Types.{Name}
use Rattle.vx_fn.specs.declared.options.FieldSelection.{FieldSelection}
use Rattle.vx_fn.specs.declared.options.FieldSelection.TheVariants.{Include, Exclude}
use Rattle.vx_fn.specs.Functions.{Function, get_item, literal, pack, select, cast, arity_of}
use Rattle.vx_fn.specs.Texts.{with_commas, pack_sql, select_sql, own_sql, call_sql, node_sql}
use Rattle.vx_tree.specs.Nodes.{function_at, children_of}
use Rattle.vx_tree.specs.Notations.{Words, name_in, names_in, select_in, own_in, full_in, node_in, text_in, texts_in, texts_of, is_shown_in, sql_words}
use Rattle.vx_tree.specs.Texts.{sql, sqls}
use Rattle.vx_tree.specs.Trees.{Tree, root, call, Trees, no_tree, tree}
use Rattle.vx_tree.specs.Views.{trees_from}
use Rattle.vx_tree.proofs.Seen.{function_node}

pub length-texts_of : {A : Type 0} (w : Words) (view : A → Tree) (xs : List A) → length (texts_of w view xs) ≡ length xs
length-texts_of w view [] = refl
length-texts_of w view (x ∷ xs) = omega (arith, length-texts_of w view xs)

pub get_or-texts_of : {A : Type 0} (w : Words) (view : A → Tree) (xs : List A) (i : ℕ) (x : A) → i < length xs → x ≡ get_or xs i x → text_in w (view x) ≡ get_or (texts_of w view xs) i []
get_or-texts_of w view [] i x h is = absurd (omega arith)
get_or-texts_of w view (y ∷ xs) zero x h is = ap (λ z. text_in w (view z)) is
get_or-texts_of w view (y ∷ xs) (suc i) x h is = get_or-texts_of w view xs i x (omega arith) is

-- ---- the text of a node, over its children

written-node : {A : Type 0} (w : Words) (view : A → Tree) (e : Tree) (f : Function) (xs : List A) → Some f ≡ function_at e → trees_from (map view xs) ≡ children_of e → node_in w f (texts_of w view xs) ≡ text_in w e
written-node w view e f xs h is = ap (λ es. node_in w f (texts_in w es)) is ∙ ap (text_in w) (sym (function_node e f h))

node_in-own : (w : Words) (f : Function) (cs : List (List ℕ)) → is_shown_in w f ≡ true → length cs ≡ arity_of f → node_in w f cs ≡ own_in w f cs
node_in-own w f cs s n = cond-true _ (own_in w f cs) (full_in w f cs) (and_from (is_shown_in w f) (arity_of f == length cs) s (eq-eqb (arity_of f) (length cs) (sym n)))

node_in-hidden : (w : Words) (f : Function) (cs : List (List ℕ)) → is_shown_in w f ≡ false → node_in w f cs ≡ full_in w f cs
node_in-hidden w f cs s = cond-false _ (own_in w f cs) (full_in w f cs) (and_left (is_shown_in w f) (arity_of f == length cs) s)

node_in-other : (w : Words) (f : Function) (cs : List (List ℕ)) → length cs ≢ arity_of f → node_in w f cs ≡ full_in w f cs
node_in-other w f cs n =
    cond-false _ (own_in w f cs) (full_in w f cs) (and_right (is_shown_in w f) (arity_of f == length cs) (ne_eqb (arity_of f) (length cs) (λ e. n (sym e))))

pub written-own : {A : Type 0} (w : Words) (view : A → Tree) (e : Tree) (f : Function) (xs : List A) → Some f ≡ function_at e → trees_from (map view xs) ≡ children_of e → is_shown_in w f ≡ true → length xs ≡ arity_of f → own_in w f (texts_of w view xs) ≡ text_in w e
written-own w view e f xs h is s n = sym (node_in-own w f (texts_of w view xs) s (length-texts_of w view xs ∙ n)) ∙ written-node w view e f xs h is

pub written-hidden : {A : Type 0} (w : Words) (view : A → Tree) (e : Tree) (f : Function) (xs : List A) → Some f ≡ function_at e → trees_from (map view xs) ≡ children_of e → is_shown_in w f ≡ false → full_in w f (texts_of w view xs) ≡ text_in w e
written-hidden w view e f xs h is s = sym (node_in-hidden w f (texts_of w view xs) s) ∙ written-node w view e f xs h is

pub written-other : {A : Type 0} (w : Words) (view : A → Tree) (e : Tree) (f : Function) (xs : List A) → Some f ≡ function_at e → trees_from (map view xs) ≡ children_of e → length xs ≢ arity_of f → full_in w f (texts_of w view xs) ≡ text_in w e
written-other w view e f xs h is n = sym (node_in-other w f (texts_of w view xs) (λ m. n (sym (length-texts_of w view xs) ∙ m))) ∙ written-node w view e f xs h is

-- ---- names

pub length-names_in : (w : Words) (names : List Name) → length (names_in w names) ≡ length names
length-names_in w [] = refl
length-names_in w (a ∷ names) = omega (arith, length-names_in w names)

pub get_or-names_in : (w : Words) (names : List Name) (i : ℕ) (a : Name) → i < length names → a ≡ get_or names i a → name_in w a ≡ get_or (names_in w names) i (name_in w a)
get_or-names_in w [] i a h is = absurd (omega arith)
get_or-names_in w (b ∷ names) zero a h is = ap (name_in w) is
get_or-names_in w (b ∷ names) (suc i) a h is = get_or-names_in w names i a (omega arith) is

-- ---- SQL

pub shown_names : (names : List Name) → names_in sql_words names ≡ names
shown_names names = map-id names

own_as_sql : (f : Function) (cs : List (List ℕ)) → own_in sql_words f cs ≡ own_sql f cs
own_as_sql (pack names n) cs = ap (λ xs. pack_sql xs n cs) (shown_names names)
own_as_sql (select (Include names)) cs = ap (λ xs. select_sql (Include xs) (get_or cs 0 [])) (shown_names names)
own_as_sql (select (Exclude names)) cs = ap (λ xs. select_sql (Exclude xs) (get_or cs 0 [])) (shown_names names)
own_as_sql f cs = refl

node_as_sql : (f : Function) (cs : List (List ℕ)) → node_in sql_words f cs ≡ node_sql f cs
node_as_sql f cs = ap (λ t. if arity_of f == length cs then t else call_sql f cs) (own_as_sql f cs)

mutual
  pub text_as_sql : (e : Tree) → text_in sql_words e ≡ sql e
  text_as_sql root = refl
  text_as_sql (call f es) = ap (node_in sql_words f) (texts_as_sqls es) ∙ node_as_sql f (sqls es)

  texts_as_sqls : (es : Trees) → texts_in sql_words es ≡ sqls es
  texts_as_sqls no_tree = refl
  texts_as_sqls (tree e es) = rw (text_as_sql e, texts_as_sqls es) refl
