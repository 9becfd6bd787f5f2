-- The source text of a tree is read as that tree.
use Rattle.std.proofs.Common.{◌≡◌, ℕ, zero, suc, ◌≤◌, Bool, true, false, List, [], ◌++◌, length, refl, ap, ◌∙◌, subst, append-nil, arith}
use Rattle.std.specs.Prelude.{◌==◌, ◌&&◌, if◌then◌else◌}
use Rattle.std.proofs.lemmas.Bool.{and_parts, eqb-true}
use Rattle.vx_fn.specs.Functions.{Function, case_when, get_item, literal, pack, select, fill_null, zip, binary, logical_not, between, like, is_null, is_not_null, mask, cast, starts_with, byte_length, list_contains, arity_of}
use Rattle.vx_tree.specs.Nodes.{count_of}
use Rattle.vx_tree.specs.Trees.{Tree, root, call, Trees, no_tree, tree}
use Rattle.vx_source_types.specs.declared.token.Sign.TheVariants.{Dollar}
use Rattle.vx_source_types.specs.Tokens.{sign, end}
use Rattle.vx_source_types.specs.Reading.{Leads, stays, IsRead, is_read}
use Rattle.vx_source_writer.specs.SourceTexts.{source, sources, own_source, full_source, is_shown}
use Rattle.vx_source_grammar.specs.ExpressionReading.{expression_step}
use Rattle.vx_source_grammar.specs.Nodes.{heights_of}
use Rattle.vx_source_grammar.specs.States.{expression_start, tight}
use Rattle.vx_source_laws.specs.Nesting.{shown_nesting, call_nesting, nesting, nestings}
use Rattle.vx_source_laws.specs.SpelledTrees.{IsSpelledFunction, IsSpelledTree, AreSpelledTrees}
use Rattle.vx_source_laws.proofs.Calls.{fill_null_again, logical_not_again, is_null_again, is_not_null_again, mask_again, starts_with_again, byte_length_again, list_contains_again, zip_again}
use Rattle.vx_source_laws.proofs.Cases.{case_again}
use Rattle.vx_source_laws.proofs.Casts.{cast_again}
use Rattle.vx_source_laws.proofs.Fulls.{full_again}
use Rattle.vx_source_laws.proofs.Operators.{binary_again, like_again, between_again}
use Rattle.vx_source_laws.proofs.Owns.{IsOwnAgain}
use Rattle.vx_source_laws.proofs.Packs.{pack_again}
use Rattle.vx_source_laws.proofs.Postfixes.{get_item_again, select_again}
use Rattle.vx_source_laws.proofs.Signs.{first_dollar}
use Rattle.vx_source_laws.proofs.TreesRead.{at, Reads, due, of_grouped, IsAgain, AreAgain}
use Rattle.vx_source_laws.proofs.TypedLiterals.{literal_again}

-- the scope root
root_again : IsAgain root
root_again fs r rest h m =
    record {
      token = sign Dollar;
      behind = rest;
      state = at fs (tight root) r;
      last = at fs (tight root) r;
      found = first_dollar rest;
      taken = refl;
      opens = refl;
      more_of = stays;
      is_behind = λ x p. refl;
    }

-- ---- nodes whose text shows their function

of_none : (f : Function) (es : Trees) → 0 ≡ count_of es → IsOwnAgain f no_tree → IsOwnAgain f es
of_none f no_tree n k = k
of_none f (tree e es) n k = absurd (omega arith)

of_one : (f : Function) (es : Trees) → 1 ≡ count_of es → AreAgain es → ((a : Tree) → IsAgain a → IsOwnAgain f (tree a no_tree)) → IsOwnAgain f es
of_one f no_tree n u k = absurd (omega arith)
of_one f (tree a no_tree) n u k = k a u.0
of_one f (tree a (tree b es)) n u k = absurd (omega arith)

of_two : (f : Function) (es : Trees) → 2 ≡ count_of es → AreAgain es → ((a b : Tree) → IsAgain a → IsAgain b → IsOwnAgain f (tree a (tree b no_tree))) → IsOwnAgain f es
of_two f no_tree n u k = absurd (omega arith)
of_two f (tree a no_tree) n u k = absurd (omega arith)
of_two f (tree a (tree b no_tree)) n u k = k a b u.0 u.1.0
of_two f (tree a (tree b (tree c es))) n u k = absurd (omega arith)

of_three : (f : Function) (es : Trees) → 3 ≡ count_of es → AreAgain es → ((a b c : Tree) → IsAgain a → IsAgain b → IsAgain c → IsOwnAgain f (tree a (tree b (tree c no_tree)))) → IsOwnAgain f es
of_three f no_tree n u k = absurd (omega arith)
of_three f (tree a no_tree) n u k = absurd (omega arith)
of_three f (tree a (tree b no_tree)) n u k = absurd (omega arith)
of_three f (tree a (tree b (tree c no_tree))) n u k = k a b c u.0 u.1.0 u.1.1.0
of_three f (tree a (tree b (tree c (tree d es)))) n u k = absurd (omega arith)

own_again : (f : Function) (es : Trees) → IsSpelledFunction f → AreAgain es → is_shown f ≡ true → arity_of f ≡ count_of es → IsOwnAgain f es
own_again (case_when zero has_else) es w u s n = cc
own_again (case_when (suc pairs) has_else) es w u s n = case_again (suc pairs) has_else es w u (omega arith) n
own_again (get_item a) es w u s n = of_one (get_item a) es n u (λ e k. get_item_again a e w k)
own_again (literal t v) es w u s n = of_none (literal t v) es n (literal_again t v w.0 w.1 w.2)
own_again (pack names nullable) es w u s n = pack_again names nullable es w u n
own_again (select selection) es w u s n = of_one (select selection) es n u (λ e k. select_again selection e w k)
own_again fill_null es w u s n = fill_null_again es u n
own_again zip es w u s n = zip_again es u n
own_again (binary op) es w u s n = of_two (binary op) es n u (λ a b k l. binary_again op a b k l)
own_again logical_not es w u s n = logical_not_again es u n
own_again (between lower_strict upper_strict) es w u s n = of_three (between lower_strict upper_strict) es n u (λ a b c j k l. between_again lower_strict upper_strict a b c j k l)
own_again (like negated case_insensitive) es w u s n = of_two (like negated case_insensitive) es n u (λ a b k l. like_again negated case_insensitive a b k l)
own_again is_null es w u s n = is_null_again es u n
own_again is_not_null es w u s n = is_not_null_again es u n
own_again mask es w u s n = mask_again es u n
own_again starts_with es w u s n = starts_with_again es u n
own_again byte_length es w u s n = byte_length_again es u n
own_again list_contains es w u s n = list_contains_again es u n
own_again (cast t) es w u s n = of_one (cast t) es n u (λ e k. cast_again t e w k)

-- ---- nodes

length-sources : (es : Trees) → length (sources es) ≡ count_of es
length-sources no_tree = refl
length-sources (tree e es) = omega (arith, length-sources es)

node_again : (f : Function) (es : Trees) → IsSpelledFunction f → AreAgain es → IsAgain (call f es)
node_again f es w u fs r rest h m = go (is_shown f && arity_of f == count_of es) refl where
  text : Bool → List ℕ
  text b = if b then own_source f (sources es) else full_source f (sources es)

  need : Bool → ℕ
  need b = if b then shown_nesting f (heights_of es) (nestings es) else call_nesting f (nestings es)

  written : (b : Bool) → (is_shown f && arity_of f == count_of es) ≡ b → source (call f es) ≡ text b
  written b e = ap (λ n. text (is_shown f && arity_of f == n)) (length-sources es) ∙ ap text e

  enough : (b : Bool) → (is_shown f && arity_of f == count_of es) ≡ b → need b ≤ r
  enough b e = subst (λ c. need c ≤ r) e h

  go : (b : Bool) → (is_shown f && arity_of f == count_of es) ≡ b → Reads fs r (call f es) (source (call f es) ++ rest) rest
  go true e =
      let parts = and_parts (is_shown f) (arity_of f == count_of es) e in
      of_grouped (ap (λ xs. xs ++ rest) (written true e)) (own_again f es w u parts.0 (eqb-true (arity_of f) (count_of es) parts.1) fs r rest (enough true e) m)
  go false e = of_grouped (ap (λ xs. xs ++ rest) (written false e)) (full_again f es fs r rest w u (enough false e))

mutual
  tree_again : (e : Tree) → IsSpelledTree e → IsAgain e
  tree_again root w = root_again
  tree_again (call f es) w = node_again f es w.0 (trees_again es w.1)

  trees_again : (es : Trees) → AreSpelledTrees es → AreAgain es
  trees_again no_tree w = tt
  trees_again (tree e es) w = (tree_again e w.0, trees_again es w.1)

-- the whole text
pub again : (e : Tree) (room : ℕ) → IsSpelledTree e → nesting e ≤ room → IsRead expression_step (expression_start room) (source e) e
again e room w h =
    let it = tree_again e w [] room [] h refl in
    is_read (subst (λ bs. Leads expression_step (expression_start room) bs it.last []) (append-nil (source e)) (due it)) refl (it.is_behind end refl)
