-- Structs, with a name before each child.
use Rattle.std.proofs.Common.{◌≡◌, ℕ, zero, suc, ◌<◌, ◌≤◌, Bool, true, false, List, [], ◌∷◌, ◌++◌, length, map, Ok, refl, sym, ap, ◌∙◌, append_assoc, append-nil, arith}
use Rattle.std.specs.Prelude.{codes}
use Rattle.vx_dtype.specs.Texts.{with_commas}
use Rattle.vx_dtype.proofs.Commas.{after_commas}
use Rattle.vx_value.specs.Types.{Name}
use Rattle.vx_fn.specs.Functions.{pack}
use Rattle.vx_fn.specs.Texts.{named_texts}
use Rattle.vx_tree.specs.Nodes.{count_of}
use Rattle.vx_tree.specs.Trees.{Tree, call, Trees, no_tree, tree}
use Rattle.vx_source_types.proofs.FirstSigns.{first_open_paren, first_close_paren, first_comma, first_question}
use Rattle.vx_source_types.specs.declared.token.Sign.TheVariants.{CloseParen, Comma, Question}
use Rattle.vx_source_types.specs.Tokens.{Lexeme, word, sign}
use Rattle.vx_source_types.specs.Names.{name_source}
use Rattle.vx_source_types.specs.Reading.{more, stays, leads}
use Rattle.vx_source_types.proofs.Reading.{then, of_text}
use Rattle.vx_source_writer.specs.SourceTexts.{source, sources}
use Rattle.vx_source_grammar.specs.Beginning.{packed_at, first_packed_at, pack_end_at}
use Rattle.vx_source_grammar.specs.ExpressionReading.{expression_step}
use Rattle.vx_source_grammar.specs.Following.{follows}
use Rattle.vx_source_grammar.specs.Joining.{over}
use Rattle.vx_source_grammar.specs.States.{Frame, in_pack, operand_due, first_packed, packed_due, packed_value, pack_end, tight, at_word, ExpressionState, goes, when_read}
use Rattle.vx_source_laws.specs.Nesting.{nestings}
use Rattle.vx_source_laws.specs.SpelledTrees.{AreTexts}
use Rattle.vx_source_laws.proofs.Heights.{heights_below}
use Rattle.vx_source_laws.proofs.NamesRead.{IsNameOf, as_word, as_quoted, named, name_again}
use Rattle.vx_source_laws.proofs.Owns.{IsOwnAgain}
use Rattle.vx_source_laws.proofs.TreesRead.{at, Goes, Ends, IsBehind, Reads, due_behind_blank, of_grouped, AreAgain, listed, over_is, node_is}

-- the texts of the children behind their names
abbrev packed_sources : List Name → Trees → List (List ℕ)
packed_sources names es = named_texts (map name_source names) (sources es)

-- what stands behind a child ends its text
child_ends : (names : List Name) (es : Trees) (rest : List ℕ) → Ends (after_commas (packed_sources names es) ++ 41 ∷ rest)
child_ends [] es rest = refl
child_ends (a ∷ names) no_tree rest = refl
child_ends (a ∷ names) (tree e es) rest = refl

-- the struct of the names and the trees
ended : (fs : List Frame) (r : ℕ) {ns ms : List Name} {ds es : List Tree} → ns ≡ ms → ds ≡ es → goes fs (pack_end ns ds) r ≡ Ok (more (at fs (pack_end ms es) r))
ended fs r {ns} {ms} {ds} {es} p q = ap (λ xs. goes fs (pack_end xs ds) r) p ∙ ap (λ xs. goes fs (pack_end ms xs) r) q

-- the children behind one, up to the bracket
more_packed : (names : List Name) (es : Trees) (before all_names : List Name) (done all : List Tree) (e : Tree) (fs : List Frame) (r : ℕ) (s : ExpressionState) (rest : List ℕ)
    → AreTexts names → AreAgain es → length names ≡ count_of es → nestings es ≤ r → before ++ names ≡ all_names → (done ++ e ∷ []) ++ listed es ≡ all → IsBehind (in_pack before done (suc r) ∷ fs) r e s
    → Goes s (after_commas (packed_sources names es) ++ 41 ∷ rest) (at fs (pack_end all_names all) (suc r)) rest
more_packed [] no_tree before all_names done all e fs r s rest u k n h p q b =
    leads (first_close_paren rest) (b (sign CloseParen) refl ∙ ended fs (suc r) (sym (append-nil before) ∙ p) (sym (append-nil (done ++ e ∷ [])) ∙ q)) stays
more_packed [] (tree d es) before all_names done all e fs r s rest u k n h p q b = absurd (omega arith)
more_packed (a ∷ names) no_tree before all_names done all e fs r s rest u k n h p q b = absurd (omega arith)
more_packed (a ∷ names) (tree d es) before all_names done all e fs r s rest u k n h p q b =
    let so_far : List Tree = done ++ e ∷ [] in
    let known : List Name = before ++ a ∷ [] in
    let behind : List ℕ = after_commas (packed_sources names es) ++ 41 ∷ rest in
    let grouped : ((codes ", " ++ (name_source a ++ (codes ": " ++ source d))) ++ after_commas (packed_sources names es)) ++ 41 ∷ rest ≡ 44 ∷ 32 ∷ (name_source a ++ (58 ∷ 32 ∷ (source d ++ behind))) = simp append_assoc in
    let name = name_again a (58 ∷ 32 ∷ (source d ++ behind)) u.0 refl refl in
    let it = k.0 (in_pack known so_far (suc r) ∷ fs) r behind (omega arith) (child_ends names es rest) in
    of_text expression_step grouped
    (leads {t = at (in_pack before so_far (suc r) ∷ fs) packed_due r} (first_comma (32 ∷ (name_source a ++ (58 ∷ 32 ∷ (source d ++ behind))))) (b (sign Comma) refl)
    (leads {t = at (in_pack known so_far (suc r) ∷ fs) packed_value r} name.found (ap (packed_at (in_pack before so_far (suc r) ∷ fs) r name.token) (named name.is_name))
    (leads {t = at (in_pack known so_far (suc r) ∷ fs) operand_due r} refl refl
    (then expression_step (due_behind_blank it)
    (more_packed names es known all_names so_far all d fs r it.last rest u.1 k.1 (omega arith) (omega arith) (append_assoc before (a ∷ []) names ∙ p) (append_assoc so_far (d ∷ []) (listed es) ∙ q) it.is_behind)))))

-- the first name, which is no bracket
first_named : {a : Name} {x : Lexeme} (fs : List Frame) (r : ℕ) → IsNameOf a x → first_packed_at (in_pack [] [] (suc r) ∷ fs) r x ≡ Ok (more (at (in_pack (a ∷ []) [] (suc r) ∷ fs) packed_value r))
first_named fs r as_word = refl
first_named fs r as_quoted = refl

-- all the children of a struct, up to the bracket
packed_again : (names : List Name) (es : Trees) (fs : List Frame) (r : ℕ) (rest : List ℕ) → AreTexts names → AreAgain es → length names ≡ count_of es → nestings es ≤ r
    → Goes (at (in_pack [] [] (suc r) ∷ fs) first_packed r) (with_commas (packed_sources names es) ++ 41 ∷ rest) (at fs (pack_end names (listed es)) (suc r)) rest
packed_again [] no_tree fs r rest u k n h = leads (first_close_paren rest) refl stays
packed_again [] (tree e es) fs r rest u k n h = absurd (omega arith)
packed_again (a ∷ names) no_tree fs r rest u k n h = absurd (omega arith)
packed_again (a ∷ names) (tree e es) fs r rest u k n h =
    let behind : List ℕ = after_commas (packed_sources names es) ++ 41 ∷ rest in
    let grouped : ((name_source a ++ (codes ": " ++ source e)) ++ after_commas (packed_sources names es)) ++ 41 ∷ rest ≡ name_source a ++ (58 ∷ 32 ∷ (source e ++ behind)) = simp append_assoc in
    let name = name_again a (58 ∷ 32 ∷ (source e ++ behind)) u.0 refl refl in
    let it = k.0 (in_pack (a ∷ []) [] (suc r) ∷ fs) r behind (omega arith) (child_ends names es rest) in
    of_text expression_step grouped
    (leads {t = at (in_pack (a ∷ []) [] (suc r) ∷ fs) packed_value r} name.found (first_named fs r name.is_name)
    (leads {t = at (in_pack (a ∷ []) [] (suc r) ∷ fs) operand_due r} refl refl
    (then expression_step (due_behind_blank it) (more_packed names es (a ∷ []) (a ∷ names) [] (e ∷ listed es) e fs r it.last rest u.1 k.1 (omega arith) (omega arith) refl refl it.is_behind))))

-- a struct that no question mark follows
not_nullable : (fs : List Frame) (r : ℕ) (names : List Name) (es : List Tree) (x : Lexeme) → (x ≡ sign Question → ⊥) → pack_end_at fs r names es x ≡ when_read (λ e. follows fs r e x) (over (pack names false) es r)
not_nullable fs r names es (sign Question) p = absurd (p refl)
not_nullable fs r names es x p = refl

pack_behind : (names : List Name) (es : Trees) (fs : List Frame) (r : ℕ) → nestings es < r → IsBehind fs r (call (pack names false) es) (at fs (pack_end names (listed es)) r)
pack_behind names es fs r h x p =
    let below = heights_below es in
    not_nullable fs r names (listed es) x (λ q. (cc)) ∙ ap (when_read (λ e. follows fs r e x)) (over_is (pack names false) es r (omega arith))

-- the struct's text, whatever follows its bracket
pack_of : (names : List Name) (n : Bool) (es : Trees) (fs : List Frame) (r : ℕ) (behind rest : List ℕ) (last : ExpressionState) → AreTexts names → AreAgain es → length names ≡ count_of es → nestings es ≤ r
    → Goes (at fs (pack_end names (listed es)) (suc r)) behind last rest → IsBehind fs (suc r) (call (pack names n) es) last
    → Reads fs (suc r) (call (pack names n) es) (codes "pack(" ++ (with_commas (packed_sources names es) ++ 41 ∷ behind)) rest
pack_of names n es fs r behind rest last u k m h g b =
    record {
      token = word (codes "pack");
      behind = 40 ∷ (with_commas (packed_sources names es) ++ 41 ∷ behind);
      state = at fs (at_word (codes "pack")) (suc r);
      last = last;
      found = refl;
      taken = refl;
      opens = refl;
      more_of =
          leads {t = at (in_pack [] [] (suc r) ∷ fs) first_packed r} (first_open_paren (with_commas (packed_sources names es) ++ 41 ∷ behind)) refl (then expression_step (packed_again names es fs r behind u k m h) g);
      is_behind = b;
    }

pub pack_again : (names : List Name) (n : Bool) (es : Trees) → AreTexts names → AreAgain es → length names ≡ count_of es → IsOwnAgain (pack names n) es
pack_again names n es u k m fs zero rest h e = absurd (omega arith)
pack_again names false es u k m fs (suc r) rest h e =
    let children : List ℕ = with_commas (packed_sources names es) in
    let grouped : (codes "pack(" ++ (children ++ (codes ")" ++ []))) ++ rest ≡ codes "pack(" ++ (children ++ 41 ∷ rest) = simp append_assoc in
    of_grouped grouped (pack_of names false es fs r rest rest _ u k m (omega arith) stays (pack_behind names es fs (suc r) (omega arith)))
pack_again names true es u k m fs (suc r) rest h e =
    let children : List ℕ = with_commas (packed_sources names es) in
    let grouped : (codes "pack(" ++ (children ++ (codes ")" ++ codes "?"))) ++ rest ≡ codes "pack(" ++ (children ++ 41 ∷ 63 ∷ rest) = simp append_assoc in
    let below = heights_below es in
    of_grouped grouped
    (pack_of names true es fs r (63 ∷ rest) rest (at fs (tight (call (pack names true) es)) (suc r)) u k m (omega arith)
    (leads (first_question rest) (node_is fs (pack names true) es (suc r) (omega arith)) stays) (λ x p. refl))
