-- Fields and selections behind an operand.
use Rattle.std.proofs.Common.{◌≡◌, ℕ, ◌<◌, Bool, true, false, List, [], ◌∷◌, ◌++◌, Ok, map, refl, sym, ap, ◌∙◌, append_assoc, append-nil, arith}
use Rattle.std.specs.Prelude.{codes}
use Rattle.std.specs.Str.{IsUtf8}
use Rattle.vx_dtype.proofs.Commas.{after_commas}
use Rattle.vx_value.specs.Types.{Name}
use Rattle.vx_fn.specs.declared.options.FieldSelection.{FieldSelection}
use Rattle.vx_fn.specs.declared.options.FieldSelection.TheVariants.{Include, Exclude}
use Rattle.vx_fn.specs.Functions.{get_item, select, selection_names}
use Rattle.vx_tree.specs.Trees.{Tree, call, no_tree, tree}
use Rattle.vx_source_types.proofs.FirstSigns.{first_comma, first_open_brace, first_close_brace}
use Rattle.vx_source_types.specs.declared.token.Sign.TheVariants.{Dot, OpenBrace}
use Rattle.vx_source_types.specs.Tokens.{Lexeme, sign}
use Rattle.vx_source_types.specs.Names.{name_source, names_source}
use Rattle.vx_source_types.specs.Reading.{more, stays, leads}
use Rattle.vx_source_types.proofs.Reading.{then, of_text}
use Rattle.vx_source_writer.specs.SourceTexts.{source, select_source}
use Rattle.vx_source_grammar.specs.ExpressionReading.{expression_step}
use Rattle.vx_source_grammar.specs.Following.{field_goes, selection_of, selected, named_goes, excluded_at, selection_at}
use Rattle.vx_source_grammar.specs.Nodes.{heights_of}
use Rattle.vx_source_grammar.specs.States.{Frame, tight, at_dot, at_selection, at_exclusion, selected_name, selected_next}
use Rattle.vx_source_laws.specs.SpelledTrees.{AreTexts}
use Rattle.vx_source_laws.proofs.NamesRead.{IsNameOf, as_word, as_quoted, named, name_again, name_ends}
use Rattle.vx_source_laws.proofs.TreesRead.{at, Goes, ends_word, ends_name, of_grouped, IsAgain, node_is}
use Rattle.vx_source_laws.proofs.Owns.{IsOwnAgain}
use Rattle.vx_source_laws.proofs.Signs.{first_dot}

-- ---- fields

pub get_item_again : (a : Name) (e : Tree) → IsUtf8 a → IsAgain e → IsOwnAgain (get_item a) (tree e no_tree)
get_item_again a e u k fs r rest h m =
    let it = k fs r (46 ∷ (name_source a ++ rest)) (omega arith) refl in
    let name = name_again a rest u (ends_word rest m) (ends_name rest m) in
    of_grouped (append_assoc (source e) (codes "." ++ name_source a) rest)
    (record {
      token = it.token;
      behind = it.behind;
      state = it.state;
      last = at fs (tight (call (get_item a) (tree e no_tree))) r;
      found = it.found;
      taken = it.taken;
      opens = it.opens;
      more_of =
          then expression_step it.more_of
          (leads {t = at fs (at_dot e) r} (first_dot (name_source a ++ rest)) (it.is_behind (sign Dot) refl)
          (leads name.found (ap (field_goes fs r e name.token) (named name.is_name) ∙ node_is fs (get_item a) (tree e no_tree) r (omega arith)) stays));
      is_behind = λ x p. refl;
    })

-- ---- selections

-- what stands behind the brace
abbrev selection_behind : FieldSelection → List ℕ
selection_behind (Include names) = names_source names ++ codes "}"
selection_behind (Exclude names) = codes "~ " ++ (names_source names ++ codes "}")

-- the node of a selection
selected_is : (fs : List Frame) (e : Tree) (r : ℕ) (excludes : Bool) (names : List Name) → heights_of (tree e no_tree) < r
    → selected fs r e excludes names ≡ Ok (more (at fs (tight (call (select (selection_of excludes names)) (tree e no_tree))) r))
selected_is fs e r excludes names h = node_is fs (select (selection_of excludes names)) (tree e no_tree) r h

-- the names behind some, up to the brace
more_names : (names before all : List Name) (fs : List Frame) (e : Tree) (r : ℕ) (excludes : Bool) (rest : List ℕ) → AreTexts names → before ++ names ≡ all → heights_of (tree e no_tree) < r
    → Goes (at fs (selected_next e excludes before) r) (after_commas (map name_source names) ++ 125 ∷ rest) (at fs (tight (call (select (selection_of excludes all)) (tree e no_tree))) r) rest
more_names [] before all fs e r excludes rest u q h = leads (first_close_brace rest) (ap (selected fs r e excludes) (sym (append-nil before) ∙ q) ∙ selected_is fs e r excludes all h) stays
more_names (a ∷ names) before all fs e r excludes rest u q h =
    let behind : List ℕ = after_commas (map name_source names) ++ 125 ∷ rest in
    let grouped : ((codes ", " ++ name_source a) ++ after_commas (map name_source names)) ++ 125 ∷ rest ≡ 44 ∷ 32 ∷ (name_source a ++ behind) = simp append_assoc in
    let ends = name_ends names (125 ∷ rest) refl refl in
    let name = name_again a behind u.0 ends.0 ends.1 in
    of_text expression_step grouped
    (leads {t = at fs (selected_name e excludes before) r} (first_comma (32 ∷ (name_source a ++ behind))) refl
    (leads {t = at fs (selected_next e excludes (before ++ a ∷ [])) r} name.found (ap (named_goes fs r e excludes before name.token) (named name.is_name))
    (more_names names (before ++ a ∷ []) all fs e r excludes rest u.1 (append_assoc before (a ∷ []) names ∙ q) h)))

-- the first name of a selection, in which it is neither a tilde nor a brace
included_first : {a : Name} {x : Lexeme} (fs : List Frame) (r : ℕ) (e : Tree) → IsNameOf a x → selection_at fs r e x ≡ Ok (more (at fs (selected_next e false (a ∷ [])) r))
included_first fs r e as_word = refl
included_first fs r e as_quoted = refl

excluded_first : {a : Name} {x : Lexeme} (fs : List Frame) (r : ℕ) (e : Tree) → IsNameOf a x → excluded_at fs r e true x ≡ Ok (more (at fs (selected_next e true (a ∷ [])) r))
excluded_first fs r e as_word = refl
excluded_first fs r e as_quoted = refl

included_names : (names : List Name) (fs : List Frame) (e : Tree) (r : ℕ) (rest : List ℕ) → AreTexts names → heights_of (tree e no_tree) < r
    → Goes (at fs (at_selection e) r) (names_source names ++ 125 ∷ rest) (at fs (tight (call (select (Include names)) (tree e no_tree))) r) rest
included_names [] fs e r rest u h = leads (first_close_brace rest) (selected_is fs e r false [] h) stays
included_names (a ∷ names) fs e r rest u h =
    let behind : List ℕ = after_commas (map name_source names) ++ 125 ∷ rest in
    let ends = name_ends names (125 ∷ rest) refl refl in
    let name = name_again a behind u.0 ends.0 ends.1 in
    of_text expression_step (append_assoc (name_source a) (after_commas (map name_source names)) (125 ∷ rest))
    (leads name.found (included_first fs r e name.is_name) (more_names names (a ∷ []) (a ∷ names) fs e r false rest u.1 refl h))

excluded_names : (names : List Name) (fs : List Frame) (e : Tree) (r : ℕ) (rest : List ℕ) → AreTexts names → heights_of (tree e no_tree) < r
    → Goes (at fs (at_exclusion e) r) (32 ∷ (names_source names ++ 125 ∷ rest)) (at fs (tight (call (select (Exclude names)) (tree e no_tree))) r) rest
excluded_names [] fs e r rest u h = leads (first_close_brace rest) (selected_is fs e r true [] h) stays
excluded_names (a ∷ names) fs e r rest u h =
    let behind : List ℕ = after_commas (map name_source names) ++ 125 ∷ rest in
    let ends = name_ends names (125 ∷ rest) refl refl in
    let name = name_again a behind u.0 ends.0 ends.1 in
    of_text expression_step (ap (λ xs. 32 ∷ xs) (append_assoc (name_source a) (after_commas (map name_source names)) (125 ∷ rest)))
    (leads name.found (excluded_first fs r e name.is_name) (more_names names (a ∷ []) (a ∷ names) fs e r true rest u.1 refl h))

-- the selection behind its operand
selection_again : (selection : FieldSelection) (fs : List Frame) (e : Tree) (r : ℕ) (rest : List ℕ) → AreTexts (selection_names selection) → heights_of (tree e no_tree) < r
    → Goes (at fs (at_selection e) r) (selection_behind selection ++ rest) (at fs (tight (call (select selection) (tree e no_tree))) r) rest
selection_again (Include names) fs e r rest u h = of_text expression_step (append_assoc (names_source names) (codes "}") rest) (included_names names fs e r rest u h)
selection_again (Exclude names) fs e r rest u h =
    of_text expression_step (ap (λ xs. 126 ∷ 32 ∷ xs) (append_assoc (names_source names) (codes "}") rest)) (leads refl refl (excluded_names names fs e r rest u h))

-- a selection's text is that of its operand with a brace behind it
selected_text : (selection : FieldSelection) (c rest : List ℕ) → select_source selection c ++ rest ≡ c ++ (123 ∷ (selection_behind selection ++ rest))
selected_text (Include names) c rest = append_assoc c _ rest
selected_text (Exclude names) c rest = append_assoc c _ rest

pub select_again : (selection : FieldSelection) (e : Tree) → AreTexts (selection_names selection) → IsAgain e → IsOwnAgain (select selection) (tree e no_tree)
select_again selection e u k fs r rest h m =
    let it = k fs r (123 ∷ (selection_behind selection ++ rest)) (omega arith) refl in
    of_grouped (selected_text selection (source e) rest)
    (record {
      token = it.token;
      behind = it.behind;
      state = it.state;
      last = at fs (tight (call (select selection) (tree e no_tree))) r;
      found = it.found;
      taken = it.taken;
      opens = it.opens;
      more_of =
          then expression_step it.more_of
          (leads {t = at fs (at_selection e) r} (first_open_brace (selection_behind selection ++ rest)) (it.is_behind (sign OpenBrace) refl) (selection_again selection fs e r rest u (omega arith)));
      is_behind = λ x p. refl;
    })
