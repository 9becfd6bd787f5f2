-- The bytes that the nodes of an expression were read from, and those of the first node that is refused.
use Rattle.std.specs.Prelude.{◌≡◌, ℕ, List, [], ◌∷◌, option_map, slice_get, unwrap_or}
use Rattle.vx_value.specs.Types.{LogicalType}
use Rattle.vx_tree.specs.Views.{tree_of}
use Rattle.vx_places.specs.Refusals.{IsFirstRefusal}
use Rattle.vx_source_operands.specs.declared.operand.Places.{Places, out-Places}
use Rattle.vx_source_parser.specs.declared.whole.Placed.{Placed}
use Rattle.vx_command_pages.specs.declared.error.CommandError.{CommandError}
use Rattle.vx_command_pages.specs.declared.error.CommandError.TheVariants.{OutOfMemory, UnreadExpression, UnreadSchema, Unfit, Refused}
use Rattle.vx_command_pages.specs.declared.report.Span.{Span}

-- the bytes of the first node
abbrev pub own_span : Places → Span
own_span places = record { start = (out-Places places).start; end = (out-Places places).end }

-- the places of its children
abbrev pub children : Places → List Places
children places = (out-Places places).children.items

-- the bytes of the node at the path, or, where it was read from none of its own, of its nearest node above that was
abbrev pub span_at : List ℕ → Places → Span
span_at [] places = own_span places
span_at (i ∷ path) places = unwrap_or (option_map (λ child. span_at path child) (slice_get (children places) i)) (own_span places)

-- the error is the first refusal of the expression over the scope's type, at the bytes that the refused node was read from,
-- or want of memory
abbrev pub IsRefusalAt : Placed → LogicalType → CommandError → Type 0
IsRefusalAt placed s OutOfMemory = Unit {0}
IsRefusalAt placed s (Refused span refusal remedy) = (path : List ℕ) × IsFirstRefusal s (tree_of placed.expression) path refusal × (span ≡ span_at path placed.places)
IsRefusalAt placed s (UnreadExpression at expected) = ⊥
IsRefusalAt placed s (UnreadSchema at expected) = ⊥
IsRefusalAt placed s (Unfit literal) = ⊥
