-- What a text is read as over a scope.
use Rattle.std.specs.Prelude.{◌≡◌, ◌⊎◌, ℕ, List, Result, Ok, Err, IsOk, IsErr, MatchResult}
use Rattle.vx_value.specs.Types.{LogicalType}
use Rattle.vx_value.specs.Views.{type_of}
use Rattle.vx_tree.specs.Trees.{Tree, typed}
use Rattle.vx_tree.specs.Views.{tree_of}
use Rattle.vx_source_types.specs.Reading.{IsRead}
use Rattle.vx_source_grammar.specs.ExpressionReading.{expression_step}
use Rattle.vx_source_grammar.specs.States.{expression_start}
use Rattle.vx_source_parser.specs.Placed.{AreReadings, tree_in}
use Rattle.vx_source_parser.specs.declared.whole.Placed.{Placed}
use Rattle.vx_source_over.specs.declared.error.OverError.{OverError}
use Rattle.vx_source_over.specs.declared.error.OverError.TheVariants.{OutOfMemory, Unexpected, Misfit}
use Rattle.vx_source_over.specs.declared.written.Written.{Written}
use Rattle.vx_source_over.specs.declared.written.Written.TheVariants.{Alone, Open}
use Rattle.vx_source_over.specs.Settling.{Refusal, misfit, unexpected, read_over}

-- the text is read as that tree where its literals stand alone
abbrev pub ReadsAlone : ℕ → List ℕ → Tree → Type 0
ReadsAlone limit text e = IsRead expression_step (expression_start limit) text e

-- over a scope of type s the text is read as that tree: as it is read alone, if that has a type; and else as its literals are
-- settled by what they stand beside
pub data ReadsOver (limit : ℕ) (text : List ℕ) (s : LogicalType) : Tree → Type 0 where
  as_alone : {e : Tree} → ReadsAlone limit text e → IsOk (typed e s) → ReadsOver limit text s e
  as_settled : {e d t : Tree} → ((a : Tree) → ReadsAlone limit text a → IsErr (typed a s)) → AreReadings limit text e d → read_over s e d ≡ Ok t → ReadsOver limit text s t

-- the call refuses with what is said
abbrev pub Refuses : {B : Type 0} → OverError → Result B Refusal → Type 0
Refuses OutOfMemory said = Unit {0}
Refuses (Unexpected at x) said = said ≡ Err (unexpected x)
Refuses (Misfit start end c t) said = said ≡ Err (misfit c (type_of t))

-- the call gave what is said, seen by view, or refused so, unless memory ran out
abbrev pub Settles : {A B : Type 0} → (A → B) → Result A OverError → Result B Refusal → Type 0
Settles view result said = MatchResult result (λ x. said ≡ Ok (view x)) (λ e. Refuses e said)

-- two readings of the text are refused so
abbrev pub RefusesReadings : ℕ → List ℕ → LogicalType → OverError → Type 0
RefusesReadings limit text s error = (e : Tree) × (d : Tree) × AreReadings limit text e d × Refuses error (read_over s e d)

-- the text isn't read as two trees
abbrev pub HasNoReadings : ℕ → List ℕ → Type 0
HasNoReadings limit text = (e d : Tree) → AreReadings limit text e d → ⊥

-- the text has no type as it is read alone
abbrev pub HasNoTypeAlone : ℕ → List ℕ → LogicalType → Type 0
HasNoTypeAlone limit text s = (e : Tree) → ReadsAlone limit text e → IsErr (typed e s)

-- memory ran out; or the text has no type as it is read alone, and it is no expression, or one with a literal that has no type
abbrev pub RefusesOver : ℕ → List ℕ → LogicalType → OverError → Type 0
RefusesOver limit text s OutOfMemory = Unit {0}
RefusesOver limit text s (Unexpected at x) = HasNoTypeAlone limit text s × (HasNoReadings limit text ⊎ RefusesReadings limit text s (Unexpected at x))
RefusesOver limit text s (Misfit start end c t) = HasNoTypeAlone limit text s × RefusesReadings limit text s (Misfit start end c t)

-- the call gave that, seen by view, unless memory ran out
abbrev pub GivesOver : {A B : Type 0} → (A → B) → Result A OverError → B → Type 0
GivesOver view result said = MatchResult result (λ x. view x ≡ said) (λ e. e ≡ OutOfMemory)

-- the text is read where its literals stand alone, or as two trees
abbrev pub IsReadOpen : ℕ → List ℕ → Type 0
IsReadOpen limit text = ((e : Tree) × ReadsAlone limit text e) ⊎ ((e : Tree) × (d : Tree) × AreReadings limit text e d)

-- the text is read neither so nor as two trees
abbrev pub IsUnread : ℕ → List ℕ → Type 0
IsUnread limit text = ((e : Tree) → ReadsAlone limit text e → ⊥) × HasNoReadings limit text

-- the call gave what the text is read as over the scope, or refused what isn't
abbrev pub ReadsOrRefuses : ℕ → List ℕ → LogicalType → Result Placed OverError → Type 0
ReadsOrRefuses limit text s result = MatchResult result (λ p. ReadsOver limit text s (tree_in p)) (λ e. RefusesOver limit text s e)

-- that holds what the text is read as: alone, with the text itself, or else as two trees
abbrev pub IsWritten : ℕ → List ℕ → Written → Type 0
IsWritten limit text (Alone placed kept depth) = ReadsAlone limit text (tree_in placed) × (kept.now ≡ text) × (depth ≡ limit)
IsWritten limit text (Open both) = ((e : Tree) → ReadsAlone limit text e → ⊥) × AreReadings limit text (tree_in both.first) (tree_of both.second)
