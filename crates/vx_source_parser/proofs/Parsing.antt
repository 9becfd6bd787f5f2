-- What a whole text comes to, where a place up to the token is all that is said of a refusal.
use Rattle.std.proofs.Common.{Bool, ◌≡◌, ◌≤◌, ◌<◌, ℕ, false, List, length, drop, Ok, Err, sym, subst, arith}
use Rattle.vx_source_types.specs.declared.error.ParseError.{ParseError}
use Rattle.vx_source_types.specs.declared.error.ParseError.TheVariants.{OutOfMemory, Unexpected}
use Rattle.vx_source_types.specs.Tokens.{Lexeme, skip, first}
use Rattle.vx_tree.specs.Trees.{Tree}
use Rattle.vx_source_types.specs.Reading.{Goes, more, Step, Leads, stops_at, IsRead}
use Rattle.vx_source_types.proofs.Reading.{forward}
use Rattle.vx_source_types.specs.ScalarReading.{ParsesWithin}
use Rattle.vx_source_grammar.specs.ExpressionReading.{expression_step, step_by}
use Rattle.vx_source_grammar.specs.States.{Reading, open_as, ExpressionState, expression_start}
use Rattle.vx_source_writer.specs.SourceTexts.{source}
use Rattle.vx_source_laws.specs.Nesting.{nesting}
use Rattle.vx_source_laws.specs.SpelledTrees.{IsSpelledTree}
use Rattle.vx_source_laws.proofs.Again.{again}
use Rattle.vx_source_operands.specs.OperandViews.{operand_of}
use Rattle.vx_source_operands.specs.Places.{ReadsUpTo}
use Rattle.vx_source_parser.specs.Placed.{StopsOpen}
use Rattle.vx_source_laws.proofs.Ends.{end_stops}

-- a token that is no part of what is read, at its place or before it
pub stopped_up_to : {S A B T : Type 0} (step : Step S B) {s u : S} {bs cs : List ℕ} {x : Lexeme} (view : A → B) (other : T → Goes S B) (error : ParseError) (from at : ℕ)
    → Leads step s bs u (drop from bs) → first (drop from bs) ≡ (x, cs) → ReadsUpTo at other (Err error) (step u x) → at ≤ length bs → ParsesWithin step s bs view (Err error)
stopped_up_to step view other OutOfMemory from at h p q l = tt
stopped_up_to step {bs = bs} view other (Unexpected place e) from at h p q l = (omega (arith, q.0), (skip false (drop from bs), stops_at h p q.1))

-- a token that is a part of an expression takes some of the text
pub takes_some : (reading : Reading) (s u : ExpressionState) (bs : List ℕ) (from at to : ℕ) (x : Lexeme) (cs : List ℕ) → first (drop from bs) ≡ (x, cs) → drop at bs ≡ skip false (drop from bs) → from ≤ at → at ≤ to
    → (at < length bs → at < to) → step_by reading s x ≡ Ok (more u) → from < to
takes_some reading s u bs from at to x cs p q h k l e =
    forward bs from at to x cs p q h k l (λ n. end_stops reading s u (subst (λ y. step_by reading s y ≡ Ok (more u)) n e))

-- the source text of an expression is read as it
pub written_is_read : (e : Tree) (room : ℕ) (bs : List ℕ) → IsSpelledTree e → nesting e ≤ room → bs ≡ source e → IsRead expression_step (expression_start room) bs e
written_is_read e room bs w h is = subst (λ x. IsRead expression_step (expression_start room) x e) (sym is) (again e room w h)

-- one of the readings of a text stops where reading it so does
pub stops_open : (other : Bool) (limit : ℕ) (text : List ℕ) (error : ParseError) → ParsesWithin (step_by (open_as other)) (expression_start limit) text operand_of (Err error) → StopsOpen limit text error
stops_open other limit text OutOfMemory h = tt
stops_open other limit text (Unexpected at x) h = (h.0, (other, h.1.0, h.1.1))
