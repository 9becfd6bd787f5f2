-- Functions that are written in full: the name, the options between square brackets, and the children between parentheses.
use Rattle.std.proofs.Common.{◌≡◌, ℕ, zero, suc, ◌≤◌, true, List, [], ◌∷◌, ◌++◌, refl, ap, ◌∙◌, append_assoc, arith}
use Rattle.std.specs.Prelude.{codes}
use Rattle.vx_dtype.specs.Texts.{with_commas}
use Rattle.vx_value.specs.Types.{Name}
use Rattle.vx_fn.specs.Functions.{Function, case_when, get_item, literal, pack, select, fill_null, zip, binary, logical_not, between, like, is_null, is_not_null, mask, cast, starts_with, byte_length, list_contains, id_of}
use Rattle.vx_tree.specs.Trees.{call, Trees}
use Rattle.vx_source_types.proofs.FirstSigns.{first_open_paren, first_open_bracket, first_close_bracket}
use Rattle.vx_source_types.proofs.FirstTokens.{first_word}
use Rattle.vx_source_types.specs.Tokens.{word}
use Rattle.vx_source_types.specs.Names.{is_plain}
use Rattle.vx_source_types.specs.Reading.{leads}
use Rattle.vx_source_types.proofs.Reading.{then}
use Rattle.vx_source_writer.specs.Options.{options_source}
use Rattle.vx_source_writer.specs.SourceTexts.{sources, full_source}
use Rattle.vx_source_grammar.specs.Beginning.{options_begin}
use Rattle.vx_source_grammar.specs.ExpressionReading.{expression_step}
use Rattle.vx_source_grammar.specs.OptionReading.{names_function}
use Rattle.vx_source_grammar.specs.States.{any_of, Frame, in_call, first_child, tight, at_word, at_vortex, at_id, in_options, children_due, goes, when_read}
use Rattle.vx_source_laws.specs.Nesting.{options_nesting, call_nesting, nestings}
use Rattle.vx_source_laws.specs.SpelledTrees.{IsSpelledFunction}
use Rattle.vx_source_laws.proofs.Children.{children_again}
use Rattle.vx_source_laws.proofs.Collecting.{no_token, options_collected}
use Rattle.vx_source_laws.proofs.Heights.{heights_below}
use Rattle.vx_source_laws.proofs.PlainOptions.{AreOptions, get_item_options, binary_options, like_options, between_options, case_options, pack_options, select_options}
use Rattle.vx_source_laws.proofs.ScalarOptions.{cast_options, literal_options}
use Rattle.vx_source_laws.proofs.Signs.{first_dot}
use Rattle.vx_source_laws.proofs.TreesRead.{at, Reads, of_grouped, AreAgain, node_is}

-- ---- names behind `vortex.`

abbrev name_of : Function → Name
name_of (case_when pairs has_else) = codes "case_when"
name_of (get_item a) = codes "get_item"
name_of (literal t v) = codes "literal"
name_of (pack names n) = codes "pack"
name_of (select selection) = codes "select"
name_of fill_null = codes "fill_null"
name_of zip = codes "zip"
name_of (binary op) = codes "binary"
name_of logical_not = codes "not"
name_of (between lower_strict upper_strict) = codes "between"
name_of (like negated case_insensitive) = codes "like"
name_of is_null = codes "is_null"
name_of is_not_null = codes "is_not_null"
name_of mask = codes "mask"
name_of (cast t) = codes "cast"
name_of starts_with = codes "starts_with"
name_of byte_length = codes "byte_length"
name_of list_contains = codes "list_contains"

-- it is a word, behind `vortex.` in the function's name, and known
named_so : (f : Function) → (id_of f ≡ codes "vortex." ++ name_of f) × (is_plain (name_of f) ≡ true) × (names_function (name_of f) ≡ true)
named_so (case_when pairs has_else) = (refl, refl, refl)
named_so (get_item a) = (refl, refl, refl)
named_so (literal t v) = (refl, refl, refl)
named_so (pack names n) = (refl, refl, refl)
named_so (select selection) = (refl, refl, refl)
named_so fill_null = (refl, refl, refl)
named_so zip = (refl, refl, refl)
named_so (binary op) = (refl, refl, refl)
named_so logical_not = (refl, refl, refl)
named_so (between lower_strict upper_strict) = (refl, refl, refl)
named_so (like negated case_insensitive) = (refl, refl, refl)
named_so is_null = (refl, refl, refl)
named_so is_not_null = (refl, refl, refl)
named_so mask = (refl, refl, refl)
named_so (cast t) = (refl, refl, refl)
named_so starts_with = (refl, refl, refl)
named_so byte_length = (refl, refl, refl)
named_so list_contains = (refl, refl, refl)

-- ---- options

options_again : (f : Function) (room : ℕ) (rest : List ℕ) → IsSpelledFunction f → options_nesting f ≤ room → AreOptions f (name_of f) room rest
options_again (case_when pairs has_else) room rest u h = case_options pairs has_else room rest u
options_again (get_item a) room rest u h = get_item_options a room rest u
options_again (literal t v) room rest u h = literal_options t v room rest u.0 u.1 u.2 (omega arith) (omega arith)
options_again (pack names n) room rest u h = pack_options names n room rest u
options_again (select selection) room rest u h = select_options selection room rest u
options_again fill_null room rest u h = record { tokens = []; collected = no_token; read = refl }
options_again zip room rest u h = record { tokens = []; collected = no_token; read = refl }
options_again (binary op) room rest u h = binary_options op room rest
options_again logical_not room rest u h = record { tokens = []; collected = no_token; read = refl }
options_again (between lower_strict upper_strict) room rest u h = between_options lower_strict upper_strict room rest
options_again (like negated case_insensitive) room rest u h = like_options negated case_insensitive room rest
options_again is_null room rest u h = record { tokens = []; collected = no_token; read = refl }
options_again is_not_null room rest u h = record { tokens = []; collected = no_token; read = refl }
options_again mask room rest u h = record { tokens = []; collected = no_token; read = refl }
options_again starts_with room rest u h = record { tokens = []; collected = no_token; read = refl }
options_again byte_length room rest u h = record { tokens = []; collected = no_token; read = refl }
options_again list_contains room rest u h = record { tokens = []; collected = no_token; read = refl }
options_again (cast t) room rest u h = cast_options t room rest u (omega arith)

-- ---- the node

pub full_again : (f : Function) (es : Trees) (fs : List Frame) (r : ℕ) (rest : List ℕ) → IsSpelledFunction f → AreAgain es → call_nesting f (nestings es) ≤ r → Reads fs r (call f es) (full_source f (sources es) ++ rest) rest
full_again f es fs zero rest u k h = absurd (omega arith)
full_again f es fs (suc r) rest u k h =
    let b = name_of f in
    let so = named_so f in
    let below = heights_below es in
    let children : List ℕ = with_commas (sources es) ++ 41 ∷ rest in
    let options = options_again f r (40 ∷ children) u (omega arith) in
    let bracketed : List ℕ = options_source f ++ 93 ∷ 40 ∷ children in
    let regrouped : ((codes "vortex." ++ b) ++ (codes "[" ++ (options_source f ++ (codes "](" ++ (with_commas (sources es) ++ codes ")"))))) ++ rest ≡ codes "vortex." ++ (b ++ 91 ∷ bracketed) = simp append_assoc in
    let grouped : full_source f (sources es) ++ rest ≡ codes "vortex." ++ (b ++ 91 ∷ bracketed) =
    ap (λ xs. (xs ++ (codes "[" ++ (options_source f ++ (codes "](" ++ (with_commas (sources es) ++ codes ")"))))) ++ rest) so.0 ∙ regrouped in
    of_grouped grouped
    (record {
      token = word (codes "vortex");
      behind = 46 ∷ (b ++ 91 ∷ bracketed);
      state = at fs (at_word (codes "vortex")) (suc r);
      last = at fs (tight (call f es)) (suc r);
      found = refl;
      taken = refl;
      opens = refl;
      more_of =
          leads {t = at fs (at_vortex (codes "vortex")) (suc r)} (first_dot (b ++ 91 ∷ bracketed)) refl
          (leads {t = at fs (at_id (codes "vortex") b) (suc r)} (first_word b (91 ∷ bracketed) so.1 refl) refl
          (leads {t = at fs (in_options b [] 0 r) (suc r)} (first_open_bracket bracketed) (ap (options_begin fs (suc r) b) so.2)
          (then expression_step (options_collected fs (suc r) b [] r options.collected)
          (leads {t = at fs (children_due f) (suc r)} (first_close_bracket (40 ∷ children)) (ap (when_read (λ g. goes fs (children_due g) (suc r))) options.read)
          (leads {t = at (in_call (any_of f) [] (suc r) ∷ fs) first_child r} (first_open_paren children) refl
          (children_again es (any_of f) fs r _ rest k (omega arith) (λ before l. refl) (node_is fs f es (suc r) (omega arith))))))));
      is_behind = λ x p. refl;
    })
