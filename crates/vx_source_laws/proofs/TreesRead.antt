-- What is read of a tree at the front of a text.
use Rattle.std.proofs.Common.{◌≡◌, ℕ, ◌<◌, ◌≤◌, Bool, true, false, List, [], ◌∷◌, ◌++◌, Ok, refl, sym, ap, ◌∙◌, subst, arith}
use Rattle.std.specs.Prelude.{◌==◌, ◌||◌, nat_lt}
use Rattle.std.proofs.lemmas.Bool.Decides.{nat_tests}
use Rattle.vx_fn.specs.Functions.{Function}
use Rattle.vx_tree.specs.Trees.{Tree, call, Trees, no_tree, tree}
use Rattle.vx_tree.specs.Views.{trees_from}
use Rattle.vx_dtype.proofs.Choice.{yes}
use Rattle.vx_source_types.specs.Characters.{is_word}
use Rattle.vx_source_types.specs.declared.token.Sign.TheVariants.{DoubleColon, Question}
use Rattle.vx_source_types.specs.Tokens.{Lexeme, sign, next, first}
use Rattle.vx_source_types.specs.Reading.{more, Leads, leads}
use Rattle.vx_source_writer.specs.SourceTexts.{source}
use Rattle.vx_source_grammar.specs.Beginning.{begins, first_child_at}
use Rattle.vx_source_grammar.specs.Closing.{node_stands}
use Rattle.vx_source_grammar.specs.ExpressionReading.{expression_step}
use Rattle.vx_source_grammar.specs.Following.{follows}
use Rattle.vx_source_grammar.specs.Joining.{over}
use Rattle.vx_source_grammar.specs.Nodes.{heights_of}
use Rattle.vx_source_grammar.specs.States.{Frame, Mode, operand_due, first_child, tight, ExpressionState, when_read, stands}
use Rattle.vx_source_laws.specs.Nesting.{nesting}

-- a state
abbrev pub at : List Frame → Mode → ℕ → ExpressionState
at fs m r = record { frames = fs; mode = m; room = r }

-- tokens at the front of a text make another state of one
abbrev pub Goes : ExpressionState → List ℕ → ExpressionState → List ℕ → Type 0
Goes s bs u ds = Leads expression_step s bs u ds

-- whether a tree's text may end before the byte, of which 0 is none: the others are a blank and `)`, `,`, `.` and `{`
abbrev pub ends_tree : ℕ → Bool
ends_tree b = b == 0 || (b == 32 || (b == 41 || (b == 44 || (b == 46 || b == 123))))

abbrev pub Ends : List ℕ → Type 0
Ends rest = ends_tree (next rest) ≡ true

pub ends_word : (rest : List ℕ) → Ends rest → is_word (next rest) ≡ false
ends_word rest e = grind (arith, nat_tests)

pub ends_text : (rest : List ℕ) → Ends rest → (next rest == 34) ≡ false
ends_text rest e = grind (arith, nat_tests)

pub ends_name : (rest : List ℕ) → Ends rest → (next rest == 96) ≡ false
ends_name rest e = grind (arith, nat_tests)

-- whether the token goes on with a value, a type or a struct
abbrev pub is_suffix : Lexeme → Bool
is_suffix (sign DoubleColon) = true
is_suffix (sign Question) = true
is_suffix x = false

-- what a tree leaves behind: the state in which it is read, as far as what follows it tells
abbrev pub IsBehind : List Frame → ℕ → Tree → ExpressionState → Type 0
IsBehind fs r e u = (x : Lexeme) → is_suffix x ≡ false → expression_step u x ≡ follows fs r e x

-- a tree at the front of a text where an operand is due, from its first token on
pub record Reads (fs : List Frame) (r : ℕ) (e : Tree) (bs rest : List ℕ) : Type 0 where
  pub token : Lexeme
  pub behind : List ℕ
  pub state : ExpressionState
  pub last : ExpressionState
  pub found : first bs ≡ (token, behind)
  pub taken : begins fs r token ≡ Ok (more state)
  pub opens : first_child_at fs r token ≡ begins fs r token
  pub more_of : Goes state behind last rest
  pub is_behind : IsBehind fs r e last

-- from where an operand is due, also behind a blank, and from where a call's first child is
pub due : {fs : List Frame} {r : ℕ} {e : Tree} {bs rest : List ℕ} → (h : Reads fs r e bs rest) → Goes (at fs operand_due r) bs h.last rest
due h = leads h.found h.taken h.more_of

pub due_behind_blank : {fs : List Frame} {r : ℕ} {e : Tree} {bs rest : List ℕ} → (h : Reads fs r e bs rest) → Goes (at fs operand_due r) (32 ∷ bs) h.last rest
due_behind_blank h = leads h.found h.taken h.more_of

pub first_due : {fs : List Frame} {r : ℕ} {e : Tree} {bs rest : List ℕ} → (h : Reads fs r e bs rest) → Goes (at fs first_child r) bs h.last rest
first_due h = leads h.found (h.opens ∙ h.taken) h.more_of

pub of_grouped : {fs : List Frame} {r : ℕ} {e : Tree} {bs cs rest : List ℕ} → bs ≡ cs → Reads fs r e cs rest → Reads fs r e bs rest
of_grouped {fs} {r} {e} {bs} {cs} {rest} q h = subst (λ xs. Reads fs r e xs rest) (sym q) h

-- the text of the tree is read as it, wherever an operand is due and so much nesting is allowed
abbrev pub IsAgain : Tree → Type 0
IsAgain e = (fs : List Frame) (r : ℕ) (rest : List ℕ) → nesting e ≤ r → Ends rest → Reads fs r e (source e ++ rest) rest

abbrev pub AreAgain : Trees → Type 0
AreAgain no_tree = Unit {0}
AreAgain (tree e es) = IsAgain e × AreAgain es

-- ---- nodes

-- the trees as a list
abbrev pub listed : Trees → List Tree
listed no_tree = []
listed (tree e es) = e ∷ listed es

pub relisted : (es : Trees) → trees_from (listed es) ≡ es
relisted no_tree = refl
relisted (tree e es) = ap (tree e) (relisted es)

pub over_is : (f : Function) (es : Trees) (r : ℕ) → heights_of es < r → over f (listed es) r ≡ Ok (call f es)
over_is f es r h =
    let below : nat_lt (heights_of es) r ≡ true = grind (arith, nat_tests) in
    rw (relisted es) (yes (nat_lt (heights_of es) r) (Ok (call f es)) _ below)

pub node_is : (fs : List Frame) (f : Function) (es : Trees) (r : ℕ) → heights_of es < r → node_stands fs r f (listed es) ≡ Ok (more (at fs (tight (call f es)) r))
node_is fs f es r h = ap (when_read (stands fs r)) (over_is f es r h)
