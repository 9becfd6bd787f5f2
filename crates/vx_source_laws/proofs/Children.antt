-- The children of a call, with commas between them.
use Rattle.std.proofs.Common.{◌≡◌, ℕ, ◌+◌, ◌<◌, ◌≤◌, suc, true, List, [], ◌∷◌, ◌++◌, length, Ok, refl, sym, ap, ◌∙◌, append_assoc, append-nil, arith}
use Rattle.std.specs.Prelude.{codes}
use Rattle.std.proofs.lemmas.List.{length-append}
use Rattle.vx_dtype.specs.Texts.{with_commas}
use Rattle.vx_dtype.proofs.Choice.{yes}
use Rattle.vx_dtype.proofs.Commas.{after_commas}
use Rattle.vx_tree.specs.Nodes.{count_of}
use Rattle.vx_tree.specs.Trees.{Tree, Trees, no_tree, tree}
use Rattle.vx_source_types.proofs.FirstSigns.{first_close_paren, first_comma}
use Rattle.vx_source_types.specs.declared.token.Sign.TheVariants.{CloseParen, Comma}
use Rattle.vx_source_types.specs.Tokens.{sign}
use Rattle.vx_source_types.specs.Reading.{more, stays, leads}
use Rattle.vx_source_types.proofs.Reading.{then, of_text}
use Rattle.vx_source_writer.specs.SourceTexts.{source, sources}
use Rattle.vx_source_grammar.specs.Closing.{called, takes_more}
use Rattle.vx_source_grammar.specs.ExpressionReading.{expression_step}
use Rattle.vx_source_grammar.specs.States.{Callee, Frame, in_call, first_child, operand_due, ExpressionState}
use Rattle.vx_source_laws.specs.Nesting.{nestings}
use Rattle.vx_source_laws.proofs.TreesRead.{at, Goes, Ends, IsBehind, due_behind_blank, first_due, AreAgain, listed}

-- what stands behind a child ends its text
child_ends : (es : Trees) (rest : List ℕ) → Ends (after_commas (sources es) ++ 41 ∷ rest)
child_ends no_tree rest = refl
child_ends (tree e es) rest = refl

-- the call takes a comma behind each but the last of so many children
abbrev pub TakesUpTo : Callee → ℕ → Type 0
TakesUpTo callee n = (before : ℕ) → before < n → takes_more callee before ≡ true

-- the children behind one, up to the bracket
more_children : (es : Trees) (e : Tree) (before : List Tree) (callee : Callee) (n : ℕ) (fs : List Frame) (r : ℕ) (s u : ExpressionState) (rest : List ℕ) → AreAgain es → nestings es ≤ r
    → TakesUpTo callee n → length before + (count_of es + 1) ≡ n
    → IsBehind (in_call callee before (suc r) ∷ fs) r e s → called fs (suc r) callee ((before ++ e ∷ []) ++ listed es) ≡ Ok (more u)
    → Goes s (after_commas (sources es) ++ 41 ∷ rest) u rest
more_children no_tree e before callee n fs r s u rest k h t c b q =
    leads (first_close_paren rest) (b (sign CloseParen) refl ∙ (ap (called fs (suc r) callee) (sym (append-nil (before ++ e ∷ []))) ∙ q)) stays
more_children (tree d es) e before callee n fs r s u rest k h t c b q =
    let done : List Tree = before ++ e ∷ [] in
    let so_many = length-append before (e ∷ []) in
    let behind : List ℕ = after_commas (sources es) ++ 41 ∷ rest in
    let grouped : ((codes ", " ++ source d) ++ after_commas (sources es)) ++ 41 ∷ rest ≡ 44 ∷ 32 ∷ (source d ++ behind) = simp append_assoc in
    let it = k.0 (in_call callee done (suc r) ∷ fs) r behind (omega arith) (child_ends es rest) in
    of_text expression_step grouped
    (leads {t = at (in_call callee done (suc r) ∷ fs) operand_due r} (first_comma (32 ∷ (source d ++ behind))) (b (sign Comma) refl ∙ yes (takes_more callee (length done)) _ _ (t (length done) (omega arith)))
    (then expression_step (due_behind_blank it) (more_children es d done callee n fs r it.last u rest k.1 (omega arith) t (omega arith) it.is_behind (ap (called fs (suc r) callee) (append_assoc done (d ∷ []) (listed es)) ∙ q))))

-- all the children of a call, up to the bracket
pub children_again : (es : Trees) (callee : Callee) (fs : List Frame) (r : ℕ) (u : ExpressionState) (rest : List ℕ) → AreAgain es → nestings es ≤ r
    → TakesUpTo callee (count_of es) → called fs (suc r) callee (listed es) ≡ Ok (more u)
    → Goes (at (in_call callee [] (suc r) ∷ fs) first_child r) (with_commas (sources es) ++ 41 ∷ rest) u rest
children_again no_tree callee fs r u rest k h t q = leads (first_close_paren rest) q stays
children_again (tree e es) callee fs r u rest k h t q =
    let behind : List ℕ = after_commas (sources es) ++ 41 ∷ rest in
    let it = k.0 (in_call callee [] (suc r) ∷ fs) r behind (omega arith) (child_ends es rest) in
    of_text expression_step (append_assoc (source e) (after_commas (sources es)) (41 ∷ rest))
    (then expression_step (first_due it) (more_children es e [] callee (count_of es + 1) fs r it.last u rest k.1 (omega arith) t (omega arith) it.is_behind q))
