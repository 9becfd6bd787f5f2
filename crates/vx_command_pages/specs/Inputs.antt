-- What a command reads, and what stops it.
use Rattle.std.specs.Prelude.{◌≡◌, ◌⊎◌, ◌≤◌, ℕ, List, length, drop, Err}
use Rattle.vx_source_types.specs.declared.error.ParseError.TheVariants.{Unexpected as Stopped}
use Rattle.vx_source_parser.specs.Placed.{StopsOpen, tree_in}
use Rattle.vx_source_parser.specs.declared.whole.Placed.{Placed}
use Rattle.vx_source_over.specs.declared.error.OverError.{OverError}
use Rattle.vx_source_over.specs.declared.error.OverError.TheVariants.{Misfit, Unexpected}
use Rattle.vx_source_over.specs.Reading.{IsReadOpen, ReadsOver, RefusesOver}
use Rattle.vx_dtype.specs.declared.error.VortexError.{VortexError}
use Rattle.vx_dtype.specs.declared.error.VortexError.TheVariants.{OutOfMemory as Exhausted}
use Rattle.vx_value.specs.Types.{LogicalType}
use Rattle.vx_tree.specs.Trees.{Tree, typed}
use Rattle.vx_source_types.specs.declared.expectation.Expected.{Expected}
use Rattle.vx_source_types.specs.Reading.{IsRead, Stops}
use Rattle.vx_source_types.specs.TypeReading.{type_step, type_start}
use Rattle.vx_source_grammar.specs.ExpressionReading.{expression_step}
use Rattle.vx_source_grammar.specs.States.{expression_start}
use Rattle.vx_command_pages.specs.Spans.{IsRefusalAt}
use Rattle.vx_command_pages.specs.declared.error.CommandError.{CommandError}
use Rattle.vx_command_pages.specs.declared.error.CommandError.TheVariants.{OutOfMemory, UnreadExpression, UnreadSchema, Unfit, Refused}
use Rattle.vx_command_pages.specs.declared.error.UnfitLiteral.{UnfitLiteral}
use Rattle.vx_command_pages.specs.declared.error.Status.{Status}
use Rattle.vx_command_pages.specs.declared.error.Status.TheVariants.{Failed, Wrong}

-- how a command ends that stops with the error
abbrev pub status_of : CommandError → Status
status_of OutOfMemory = Failed
status_of (UnreadExpression at expected) = Wrong
status_of (UnreadSchema at expected) = Wrong
status_of (Unfit literal) = Wrong
status_of (Refused span refusal remedy) = Wrong

-- the text alone is read as that expression
abbrev pub Reads : List ℕ → Tree → Type 0
Reads text e = IsRead expression_step (expression_start 200) text e

-- the text is read as that expression over rows of type s
abbrev pub ReadsAs : List ℕ → LogicalType → Tree → Type 0
ReadsAs text s e = ReadsOver 200 text s e

-- the schema is read as that type
abbrev pub ReadsType : List ℕ → LogicalType → Type 0
ReadsType schema s = IsRead type_step (type_start 200) schema s

-- reading the text as an expression stops, where something else should stand
abbrev pub StopsReading : List ℕ → ℕ → Expected → Type 0
StopsReading text at expected = (at ≤ length text) × ((ds : List ℕ) × Stops expression_step (expression_start 200) text ds expected)

-- reading the text as an expression over rows of some type stops, where something else should stand
abbrev pub StopsReadingOver : List ℕ → ℕ → Expected → Type 0
StopsReadingOver text at expected = StopsOpen 200 text (Stopped at expected)

-- reading the schema stops at that byte
abbrev pub StopsReadingType : List ℕ → ℕ → Expected → Type 0
StopsReadingType schema at expected = (at ≤ length schema) × Stops type_step (type_start 200) schema (drop at schema) expected

-- the error is what stops reading the text, or want of memory
abbrev pub IsUnread : List ℕ → CommandError → Type 0
IsUnread text OutOfMemory = Unit {0}
IsUnread text (UnreadExpression at expected) = StopsReading text at expected
IsUnread text (UnreadSchema at expected) = ⊥
IsUnread text (Unfit literal) = ⊥
IsUnread text (Refused span refusal remedy) = ⊥

-- the error is what stops reading the text over rows of some type, or want of memory
abbrev pub IsUnreadOver : List ℕ → CommandError → Type 0
IsUnreadOver text OutOfMemory = Unit {0}
IsUnreadOver text (UnreadExpression at expected) = StopsReadingOver text at expected
IsUnreadOver text (UnreadSchema at expected) = ⊥
IsUnreadOver text (Unfit literal) = ⊥
IsUnreadOver text (Refused span refusal remedy) = ⊥

-- the error is what stops reading the schema, or want of memory
abbrev pub IsUnreadSchema : List ℕ → CommandError → Type 0
IsUnreadSchema schema OutOfMemory = Unit {0}
IsUnreadSchema schema (UnreadSchema at expected) = StopsReadingType schema at expected
IsUnreadSchema schema (UnreadExpression at expected) = ⊥
IsUnreadSchema schema (Unfit literal) = ⊥
IsUnreadSchema schema (Refused span refusal remedy) = ⊥

-- the text is read, and reading the schema stops at that byte
abbrev pub IsReadUpTo : List ℕ → List ℕ → ℕ → Expected → Type 0
IsReadUpTo text schema at expected = IsReadOpen 200 text × StopsReadingType schema at expected

-- the same as a refusal of the text
abbrev pub misfit_of : UnfitLiteral → OverError
misfit_of literal = Misfit literal.span.start literal.span.end literal.scalar literal.dtype

-- the text is refused so over rows of type s
abbrev pub IsRefusedOver : List ℕ → LogicalType → CommandError → Type 0
IsRefusedOver text s OutOfMemory = Unit {0}
IsRefusedOver text s (UnreadExpression at expected) = RefusesOver 200 text s (Unexpected at expected)
IsRefusedOver text s (UnreadSchema at expected) = ⊥
IsRefusedOver text s (Unfit literal) = RefusesOver 200 text s (misfit_of literal.value)
IsRefusedOver text s (Refused span refusal remedy) = ⊥

-- the text is refused so over rows of the type that the schema is read as
abbrev pub IsRefusedOverSchema : List ℕ → List ℕ → CommandError → Type 0
IsRefusedOverSchema text schema error = (s : LogicalType) × ReadsType schema s × IsRefusedOver text s error

-- the error is what stops reading the text, or else the schema, or else the text over rows of its type, or want of memory
abbrev pub IsUnreadQuery : List ℕ → List ℕ → CommandError → Type 0
IsUnreadQuery text schema OutOfMemory = Unit {0}
IsUnreadQuery text schema (UnreadExpression at expected) = StopsReadingOver text at expected ⊎ IsRefusedOverSchema text schema (UnreadExpression at expected)
IsUnreadQuery text schema (UnreadSchema at expected) = IsReadUpTo text schema at expected
IsUnreadQuery text schema (Unfit literal) = IsRefusedOverSchema text schema (Unfit literal)
IsUnreadQuery text schema (Refused span refusal remedy) = ⊥

-- the texts are read as an expression and a type, and so much holds of these, with some places of the expression's nodes
abbrev pub ReadsWhere : List ℕ → List ℕ → (Placed → LogicalType → Type 0) → Type 0
ReadsWhere text schema P = (placed : Placed) × (s : LogicalType) × ReadsAs text s (tree_in placed) × ReadsType schema s × P placed s

-- the refusal is the first of the expression over the scope's type, or want of memory
abbrev pub IsRefusedWith : Tree → LogicalType → VortexError → Type 0
IsRefusedWith e s refusal = (refusal ≡ Exhausted) ⊎ (typed e s ≡ Err refusal)

-- the error is the first refusal of the expression over the scope's type, or want of memory
abbrev pub IsRefusal : Tree → LogicalType → CommandError → Type 0
IsRefusal e s OutOfMemory = Unit {0}
IsRefusal e s (Refused span refusal remedy) = typed e s ≡ Err refusal
IsRefusal e s (UnreadExpression at expected) = ⊥
IsRefusal e s (UnreadSchema at expected) = ⊥
IsRefusal e s (Unfit literal) = ⊥

-- the error is what stops reading the text, or else the schema, or else the text over rows of its type, or the first refusal of
-- what they are read as, at the bytes that some places of its nodes give the refused one, or want of memory
abbrev pub IsCommandError : List ℕ → List ℕ → CommandError → Type 0
IsCommandError text schema OutOfMemory = Unit {0}
IsCommandError text schema (UnreadExpression at expected) = IsUnreadQuery text schema (UnreadExpression at expected)
IsCommandError text schema (UnreadSchema at expected) = IsReadUpTo text schema at expected
IsCommandError text schema (Unfit literal) = IsRefusedOverSchema text schema (Unfit literal)
IsCommandError text schema (Refused span refusal remedy) = ReadsWhere text schema (λ placed s. IsRefusal (tree_in placed) s (Refused span refusal remedy) × IsRefusalAt placed s (Refused span refusal remedy))
