-- A CASE, with its conditions and values in turn.
use Rattle.std.proofs.Common.{◌≡◌, ℕ, zero, suc, ◌/◌, ◌%◌, ◌^◌, ◌<◌, ◌≤◌, Bool, true, false, List, [], ◌∷◌, ◌++◌, length, Ok, Err, refl, sym, ap, ◌∙◌, append_assoc, append-nil, arith}
use Rattle.std.specs.Prelude.{codes, ◌==◌, nat_lt}
use Rattle.std.proofs.lemmas.Bool.{eq-eqb}
use Rattle.std.proofs.lemmas.Bool.Decides.{nat_tests}
use Rattle.vx_fn.specs.Functions.{case_when, case_children}
use Rattle.vx_fn.specs.Texts.{pairs_sql}
use Rattle.vx_tree.specs.Nodes.{count_of}
use Rattle.vx_tree.specs.Trees.{Tree, call, Trees, no_tree, tree}
use Rattle.vx_dtype.proofs.Choice.{yes}
use Rattle.vx_source_types.proofs.FirstTokens.{first_word}
use Rattle.vx_source_types.specs.Tokens.{word}
use Rattle.vx_source_types.specs.declared.expectation.Expected.TheVariants.{FewerPairs}
use Rattle.vx_source_types.specs.Reading.{more, stays, leads}
use Rattle.vx_source_types.proofs.Reading.{then, of_text}
use Rattle.vx_source_writer.specs.SourceTexts.{source, sources}
use Rattle.vx_source_grammar.specs.Closing.{case_ends, node_stands}
use Rattle.vx_source_grammar.specs.ExpressionReading.{expression_step}
use Rattle.vx_source_grammar.specs.States.{condition_part, value_part, else_part, Frame, in_case, operand_due, case_due, tight, ExpressionState, ExpressionAnswer}
use Rattle.vx_source_laws.specs.Nesting.{nestings}
use Rattle.vx_source_laws.proofs.Calls.{length-listed}
use Rattle.vx_source_laws.proofs.Heights.{heights_below}
use Rattle.vx_source_laws.proofs.Owns.{IsOwnAgain}
use Rattle.vx_source_laws.proofs.TreesRead.{at, Goes, Ends, ends_word, IsBehind, due_behind_blank, of_grouped, AreAgain, listed, node_is}

-- what stands behind a value ends its text
value_ends : (es : Trees) (rest : List ℕ) → Ends (pairs_sql (sources es) ++ (codes " END" ++ rest))
value_ends no_tree rest = refl
value_ends (tree e no_tree) rest = refl
value_ends (tree e (tree d es)) rest = refl

-- the pairs behind a value, up to the end
more_pairs : (es : Trees) (v : Tree) (done all : List Tree) (fs : List Frame) (r : ℕ) (s u : ExpressionState) (rest : List ℕ) → AreAgain es → nestings es ≤ r → Ends rest
    → (done ++ v ∷ []) ++ listed es ≡ all → IsBehind (in_case value_part done (suc r) ∷ fs) r v s → case_ends fs all (suc r) ≡ Ok (more u)
    → Goes s (pairs_sql (sources es) ++ (codes " END" ++ rest)) u rest
more_pairs no_tree v done all fs r s u rest k h m p b q =
    leads (first_word (codes "END") rest refl (ends_word rest m)) (b (word (codes "END")) refl ∙ (ap (λ es. case_ends fs es (suc r)) (sym (append-nil (done ++ v ∷ [])) ∙ p) ∙ q)) stays
more_pairs (tree e no_tree) v done all fs r s u rest k h m p b q =
    let so_far : List Tree = done ++ v ∷ [] in
    let it = k.0 (in_case else_part so_far (suc r) ∷ fs) r (codes " END" ++ rest) (omega arith) refl in
    leads {t = at (in_case else_part so_far (suc r) ∷ fs) operand_due r} refl (b (word (codes "ELSE")) refl)
    (then expression_step (due_behind_blank it)
    (leads (first_word (codes "END") rest refl (ends_word rest m)) (it.is_behind (word (codes "END")) refl ∙ (ap (λ es. case_ends fs es (suc r)) p ∙ q)) stays))
more_pairs (tree c (tree d es)) v done all fs r s u rest k h m p b q =
    let so_far : List Tree = done ++ v ∷ [] in
    let with_condition : List Tree = so_far ++ c ∷ [] in
    let behind : List ℕ = pairs_sql (sources es) ++ (codes " END" ++ rest) in
    let grouped : (codes " WHEN " ++ (source c ++ (codes " THEN " ++ (source d ++ pairs_sql (sources es))))) ++ (codes " END" ++ rest) ≡ codes " WHEN " ++ (source c ++ (codes " THEN " ++ (source d ++ behind))) = simp append_assoc in
    let condition = k.0 (in_case condition_part so_far (suc r) ∷ fs) r (codes " THEN " ++ (source d ++ behind)) (omega arith) refl in
    let value = k.1.0 (in_case value_part with_condition (suc r) ∷ fs) r behind (omega arith) (value_ends es rest) in
    let all_again : (with_condition ++ d ∷ []) ++ listed es ≡ all = (append_assoc with_condition (d ∷ []) (listed es) ∙ append_assoc so_far (c ∷ []) (d ∷ listed es)) ∙ p in
    of_text expression_step grouped
    (leads {t = at (in_case condition_part so_far (suc r) ∷ fs) operand_due r} refl (b (word (codes "WHEN")) refl)
    (then expression_step (due_behind_blank condition)
    (leads {t = at (in_case value_part with_condition (suc r) ∷ fs) operand_due r} refl (condition.is_behind (word (codes "THEN")) refl)
    (then expression_step (due_behind_blank value) (more_pairs es d with_condition all fs r value.last u rest k.1.1 (omega arith) m all_again value.is_behind q)))))

-- ---- the node

-- the CASE of so many pairs
abbrev paired : List Frame → Trees → ℕ → ℕ → Bool → ExpressionAnswer
paired fs es outside pairs has_else = elim (nat_lt pairs (2 ^ 32)) [ true ↦ node_stands fs outside (case_when pairs has_else) (listed es) | false ↦ Err FewerPairs ]

paired_is : (pairs : ℕ) (has_else : Bool) (es : Trees) (fs : List Frame) (outside : ℕ) → pairs < 2 ^ 32 → nestings es < outside → paired fs es outside pairs has_else ≡ Ok (more (at fs (tight (call (case_when pairs has_else) es)) outside))
paired_is pairs has_else es fs outside l h =
    let below = heights_below es in
    let few : nat_lt pairs (2 ^ 32) ≡ true = grind (arith, nat_tests) in
    yes (nat_lt pairs (2 ^ 32)) _ _ few ∙ node_is fs (case_when pairs has_else) es outside (omega arith)

case_is : (pairs : ℕ) (has_else : Bool) (es : Trees) (fs : List Frame) (outside : ℕ) → pairs < 2 ^ 32 → case_children pairs has_else ≡ count_of es → nestings es < outside
    → case_ends fs (listed es) outside ≡ Ok (more (at fs (tight (call (case_when pairs has_else) es)) outside))
case_is pairs true es fs outside l n h =
    let len = length-listed es in
    let half : length (listed es) / 2 ≡ pairs = omega arith in
    let odd : (length (listed es) % 2 == 1) ≡ true = eq-eqb (length (listed es) % 2) 1 (omega arith) in
    ap (λ p. paired fs es outside p (length (listed es) % 2 == 1)) half ∙ (ap (paired fs es outside pairs) odd ∙ paired_is pairs true es fs outside l h)
case_is pairs false es fs outside l n h =
    let len = length-listed es in
    let half : length (listed es) / 2 ≡ pairs = omega arith in
    let even : length (listed es) % 2 ≡ 0 = omega arith in
    ap (λ p. paired fs es outside p (length (listed es) % 2 == 1)) half ∙ (ap (λ rem. paired fs es outside pairs (rem == 1)) even ∙ paired_is pairs false es fs outside l h)

-- a CASE of one pair at least, since it shows what it is
pub case_again : (pairs : ℕ) (has_else : Bool) (es : Trees) → pairs < 2 ^ 32 → AreAgain es → 0 < pairs → case_children pairs has_else ≡ count_of es → IsOwnAgain (case_when pairs has_else) es
case_again pairs has_else es l k o n fs zero rest h m = absurd (omega arith)
case_again pairs true no_tree l k o n fs (suc r) rest h m = absurd (omega arith)
case_again pairs false no_tree l k o n fs (suc r) rest h m = absurd (omega arith)
case_again pairs true (tree e no_tree) l k o n fs (suc r) rest h m = absurd (omega arith)
case_again pairs false (tree e no_tree) l k o n fs (suc r) rest h m = absurd (omega arith)
case_again pairs has_else (tree c (tree v es)) l k o n fs (suc r) rest h m =
    let behind : List ℕ = pairs_sql (sources es) ++ (codes " END" ++ rest) in
    let grouped : (codes "CASE" ++ ((codes " WHEN " ++ (source c ++ (codes " THEN " ++ (source v ++ pairs_sql (sources es))))) ++ codes " END")) ++ rest ≡ codes "CASE WHEN " ++ (source c ++ (codes " THEN " ++ (source v ++ behind))) = simp append_assoc in
    let condition = k.0 (in_case condition_part [] (suc r) ∷ fs) r (codes " THEN " ++ (source v ++ behind)) (omega arith) refl in
    let value = k.1.0 (in_case value_part (c ∷ []) (suc r) ∷ fs) r behind (omega arith) (value_ends es rest) in
    let ended = case_is pairs has_else (tree c (tree v es)) fs (suc r) l n (omega arith) in
    of_grouped grouped
    (record {
      token = word (codes "CASE");
      behind = codes " WHEN " ++ (source c ++ (codes " THEN " ++ (source v ++ behind)));
      state = at (in_case condition_part [] (suc r) ∷ fs) case_due r;
      last = at fs (tight (call (case_when pairs has_else) (tree c (tree v es)))) (suc r);
      found = refl;
      taken = refl;
      opens = refl;
      more_of =
          leads {t = at (in_case condition_part [] (suc r) ∷ fs) operand_due r} refl refl
          (then expression_step (due_behind_blank condition)
          (leads {t = at (in_case value_part (c ∷ []) (suc r) ∷ fs) operand_due r} refl (condition.is_behind (word (codes "THEN")) refl)
          (then expression_step (due_behind_blank value) (more_pairs es v (c ∷ []) (c ∷ v ∷ listed es) fs r value.last _ rest k.1.1 (omega arith) m refl value.is_behind ended))));
      is_behind = λ x p. refl;
    })
