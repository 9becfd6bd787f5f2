-- The bytes of nodes along a path.
use Rattle.std.proofs.Common.{◌≡◌, ◌∙◌, ℕ, ◌-◌, ◌<◌, ◌≤◌, true, false, List, [], ◌∷◌, length, drop, take, get_or, ltb, Option, Some, refl, sym, ap, arith}
use Rattle.std.specs.Prelude.{option_map, slice_get, unwrap_or}
use Rattle.std.proofs.lemmas.Bool.{ltb-true, ltb-false}
use Rattle.std.proofs.lemmas.List.{take_all}
use Rattle.std.proofs.lemmas.Option.{slice_get_past, slice_get_read}
use Rattle.vx_source_operands.specs.declared.operand.Places.{Places}
use Rattle.vx_command_pages.specs.Spans.{own_span, children, span_at}
use Rattle.vx_command_pages.specs.declared.report.Span.{Span}

-- what a child's place says, if there is one
abbrev below : List ℕ → Places → Option Places → Span
below path places found = unwrap_or (option_map (λ child. span_at path child) found) (own_span places)

-- at the end of the path
pub at_end : (path : List ℕ) (places : Places) → length path < 1 → own_span places ≡ span_at path places
at_end [] places h = refl
at_end (i ∷ path) places h = absurd (omega arith)

-- at a child, of those that there are
pub at_child : (path : List ℕ) (places child : Places) → 1 ≤ length path → true ≡ ltb (get_or path 0 0) (length (children places)) → child ≡ get_or (children places) (get_or path 0 0) child
    → span_at (take (length path - 1) (drop 1 path)) child ≡ span_at path places
at_child [] places child h there is = absurd (omega arith)
at_child (i ∷ path) places child h there is =
    let found : slice_get (children places) i ≡ Some child = slice_get_read (children places) (length (children places)) i child refl (ltb-true i (length (children places)) (sym there)) is in
    let rest : take (length (i ∷ path) - 1) path ≡ path = take_all (length (i ∷ path) - 1) path (omega arith) in
    ap (λ p. span_at p child) rest ∙ sym (ap (below path places) found)

-- where there is none
pub at_none : (path : List ℕ) (places : Places) → 1 ≤ length path → false ≡ ltb (get_or path 0 0) (length (children places)) → own_span places ≡ span_at path places
at_none [] places h none = absurd (omega arith)
at_none (i ∷ path) places h none = sym (ap (below path places) (slice_get_past (children places) i (ltb-false i (length (children places)) (sym none))))
