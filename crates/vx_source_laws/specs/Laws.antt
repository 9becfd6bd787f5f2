-- What is written of an expression is read as that expression.
use Rattle.std.specs.Prelude.{◌≡◌, ◌≤◌, ◌+◌, ℕ, Ok}
use Rattle.vx_tree.specs.Trees.{Tree}
use Rattle.vx_source_types.specs.Tokens.{end}
use Rattle.vx_source_types.specs.Reading.{more, IsRead}
use Rattle.vx_source_writer.specs.SourceTexts.{source}
use Rattle.vx_source_grammar.specs.ExpressionReading.{expression_step, step_by}
use Rattle.vx_source_grammar.specs.Nodes.{height_of}
use Rattle.vx_source_grammar.specs.States.{Reading, ExpressionState, expression_start}
use Rattle.vx_source_laws.specs.Nesting.{nesting, own_brackets}
use Rattle.vx_source_laws.specs.SpelledTrees.{IsSpelledTree}

-- where the text ends, nothing more is read, however literals without a type are
abbrev pub EndStops : Type 0
EndStops = (reading : Reading) (s u : ExpressionState) → ¬ (step_by reading s end ≡ Ok (more u))

-- the source text of a tree is read as that tree, where so much nesting is allowed
abbrev pub SourceIsReadAgain : Type 0
SourceIsReadAgain = (e : Tree) (room : ℕ) → IsSpelledTree e → nesting e ≤ room → IsRead expression_step (expression_start room) (source e) e

-- that is at least the tree's height, and at most one more than its height and the brackets of its values and types
abbrev pub NestingIsHeight : Type 0
NestingIsHeight = (e : Tree) → (height_of e ≤ nesting e) × (nesting e ≤ height_of e + own_brackets e + 1)
