-- Functions that are written by their names, with their children between parentheses.
use Rattle.std.proofs.Common.{◌≡◌, ℕ, zero, suc, ◌<◌, ◌≤◌, true, List, [], ◌∷◌, ◌++◌, length, Some, Ok, refl, sym, ap, ◌∙◌, append_assoc, arith}
use Rattle.std.specs.Prelude.{codes, ◌==◌}
use Rattle.std.proofs.lemmas.Bool.{eq-eqb}
use Rattle.std.proofs.lemmas.Bool.Decides.{nat_tests}
use Rattle.vx_dtype.specs.Texts.{with_commas}
use Rattle.vx_value.specs.Types.{Name}
use Rattle.vx_fn.specs.Functions.{Function, fill_null, zip, logical_not, is_null, is_not_null, mask, starts_with, byte_length, list_contains, arity_of}
use Rattle.vx_tree.specs.Nodes.{count_of}
use Rattle.vx_tree.specs.Trees.{call, Trees, no_tree, tree}
use Rattle.vx_dtype.proofs.Choice.{yes}
use Rattle.vx_source_types.proofs.FirstSigns.{first_open_paren}
use Rattle.vx_source_types.proofs.FirstTokens.{first_word}
use Rattle.vx_source_types.specs.Tokens.{word}
use Rattle.vx_source_types.specs.Names.{is_plain}
use Rattle.vx_source_types.specs.Reading.{more, leads}
use Rattle.vx_source_writer.specs.SourceTexts.{sources}
use Rattle.vx_source_grammar.specs.Beginning.{id_called}
use Rattle.vx_source_grammar.specs.Closing.{called}
use Rattle.vx_source_grammar.specs.Keywords.{beside}
use Rattle.vx_source_grammar.specs.OptionReading.{plain_functions}
use Rattle.vx_source_grammar.specs.States.{own_of, Frame, in_call, first_child, tight, at_word, at_vortex, at_id}
use Rattle.vx_source_laws.specs.Nesting.{nestings}
use Rattle.vx_source_laws.proofs.Children.{TakesUpTo, children_again}
use Rattle.vx_source_laws.proofs.Heights.{heights_below}
use Rattle.vx_source_laws.proofs.Owns.{IsOwnAgain}
use Rattle.vx_source_laws.proofs.Signs.{first_dot}
use Rattle.vx_source_laws.proofs.TreesRead.{at, Goes, Reads, of_grouped, AreAgain, listed, node_is}

pub length-listed : (es : Trees) → length (listed es) ≡ count_of es
length-listed no_tree = refl
length-listed (tree e es) = omega (arith, length-listed es)

called_is : (f : Function) (es : Trees) (fs : List Frame) (outside : ℕ) → arity_of f ≡ count_of es → nestings es < outside → called fs outside (own_of f) (listed es) ≡ Ok (more (at fs (tight (call f es)) outside))
called_is f es fs outside n h =
    let below = heights_below es in
    yes (arity_of f == length (listed es)) _ _ (eq-eqb (arity_of f) (length (listed es)) (n ∙ sym (length-listed es))) ∙ node_is fs f es outside (omega arith)

-- a function takes a comma behind each child but its last
own_takes : (f : Function) (n : ℕ) → arity_of f ≡ n → TakesUpTo (own_of f) n
own_takes f n p before l = grind (arith, nat_tests)

-- the children behind a function's name and its bracket
own_children : (f : Function) (es : Trees) (fs : List Frame) (r : ℕ) (rest : List ℕ) → AreAgain es → arity_of f ≡ count_of es → nestings es ≤ r
    → Goes (at (in_call (own_of f) [] (suc r) ∷ fs) first_child r) (with_commas (sources es) ++ 41 ∷ rest) (at fs (tight (call f es)) (suc r)) rest
own_children f es fs r rest k n h = children_again es (own_of f) fs r _ rest k h (own_takes f (count_of es) n) (called_is f es fs (suc r) n (omega arith))

-- a function without options, behind `vortex.`
plain_again : (f : Function) (b : Name) (es : Trees) (fs : List Frame) (r : ℕ) (rest : List ℕ) → is_plain b ≡ true → beside plain_functions b ≡ Some f → AreAgain es → arity_of f ≡ count_of es → nestings es < r
    → Reads fs r (call f es) (((codes "vortex." ++ b) ++ (codes "(" ++ (with_commas (sources es) ++ codes ")"))) ++ rest) rest
plain_again f b es fs zero rest p q k n h = absurd (omega arith)
plain_again f b es fs (suc r) rest p q k n h =
    let children : List ℕ = with_commas (sources es) ++ 41 ∷ rest in
    let grouped : ((codes "vortex." ++ b) ++ (codes "(" ++ (with_commas (sources es) ++ codes ")"))) ++ rest ≡ codes "vortex." ++ (b ++ 40 ∷ children) = simp append_assoc in
    of_grouped grouped
    (record {
      token = word (codes "vortex");
      behind = 46 ∷ (b ++ 40 ∷ children);
      state = at fs (at_word (codes "vortex")) (suc r);
      last = at fs (tight (call f es)) (suc r);
      found = refl;
      taken = refl;
      opens = refl;
      more_of =
          leads {t = at fs (at_vortex (codes "vortex")) (suc r)} (first_dot (b ++ 40 ∷ children)) refl
          (leads {t = at fs (at_id (codes "vortex") b) (suc r)} (first_word b (40 ∷ children) p refl) refl
          (leads {t = at (in_call (own_of f) [] (suc r) ∷ fs) first_child r} (first_open_paren children) (ap (id_called fs (suc r) b) q) (own_children f es fs r rest k n (omega arith))));
      is_behind = λ x p. refl;
    })

pub fill_null_again : (es : Trees) → AreAgain es → arity_of fill_null ≡ count_of es → IsOwnAgain fill_null es
fill_null_again es k n fs r rest h m = plain_again fill_null (codes "fill_null") es fs r rest refl refl k n (omega arith)

pub logical_not_again : (es : Trees) → AreAgain es → arity_of logical_not ≡ count_of es → IsOwnAgain logical_not es
logical_not_again es k n fs r rest h m = plain_again logical_not (codes "not") es fs r rest refl refl k n (omega arith)

pub is_null_again : (es : Trees) → AreAgain es → arity_of is_null ≡ count_of es → IsOwnAgain is_null es
is_null_again es k n fs r rest h m = plain_again is_null (codes "is_null") es fs r rest refl refl k n (omega arith)

pub is_not_null_again : (es : Trees) → AreAgain es → arity_of is_not_null ≡ count_of es → IsOwnAgain is_not_null es
is_not_null_again es k n fs r rest h m = plain_again is_not_null (codes "is_not_null") es fs r rest refl refl k n (omega arith)

pub mask_again : (es : Trees) → AreAgain es → arity_of mask ≡ count_of es → IsOwnAgain mask es
mask_again es k n fs r rest h m = plain_again mask (codes "mask") es fs r rest refl refl k n (omega arith)

pub starts_with_again : (es : Trees) → AreAgain es → arity_of starts_with ≡ count_of es → IsOwnAgain starts_with es
starts_with_again es k n fs r rest h m = plain_again starts_with (codes "starts_with") es fs r rest refl refl k n (omega arith)

pub byte_length_again : (es : Trees) → AreAgain es → arity_of byte_length ≡ count_of es → IsOwnAgain byte_length es
byte_length_again es k n fs r rest h m = plain_again byte_length (codes "byte_length") es fs r rest refl refl k n (omega arith)

pub list_contains_again : (es : Trees) → AreAgain es → arity_of list_contains ≡ count_of es → IsOwnAgain list_contains es
list_contains_again es k n fs r rest h m = plain_again list_contains (codes "list_contains") es fs r rest refl refl k n (omega arith)

-- `zip` has a name of its own
pub zip_again : (es : Trees) → AreAgain es → arity_of zip ≡ count_of es → IsOwnAgain zip es
zip_again es k n fs zero rest h m = absurd (omega arith)
zip_again es k n fs (suc r) rest h m =
    let children : List ℕ = with_commas (sources es) ++ 41 ∷ rest in
    of_grouped (ap (λ xs. codes "zip(" ++ xs) (append_assoc (with_commas (sources es)) (codes ")") rest))
    (record {
      token = word (codes "zip");
      behind = 40 ∷ children;
      state = at fs (at_word (codes "zip")) (suc r);
      last = at fs (tight (call zip es)) (suc r);
      found = refl;
      taken = refl;
      opens = refl;
      more_of = leads {t = at (in_call (own_of zip) [] (suc r) ∷ fs) first_child r} (first_open_paren children) refl (own_children zip es fs r rest k n (omega arith));
      is_behind = λ x p. refl;
    })
