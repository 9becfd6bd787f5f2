-- The digits of DuckDB's bytes, byte by byte.
use Rattle.std.proofs.Common.{◌≡◌, ◌<◌, ◌≤◌, ◌-◌, ℕ, List, [], ◌∷◌, length, take, drop, None, refl, sym, ap, arith}
use Rattle.std.proofs.Math.Seq.{take-length}
use Rattle.std.specs.Prelude.{◌==◌, ◌&&◌, if◌then◌else◌, slice_index_or}
use Rattle.vx_source_types.specs.Characters.{is_word}
use Rattle.vx_sql_parser.specs.Patterns.{behind}
use Rattle.vx_sql_parser.specs.Values.{escape_digits}

pub escape_short : (p : List ℕ) → length p < 4 → 0 < length p → escape_digits p ≡ None
escape_short [] short some = absurd (omega arith)
escape_short (a ∷ []) short some = refl
escape_short (a ∷ b ∷ []) short some = refl
escape_short (a ∷ b ∷ c ∷ []) short some = refl
escape_short (a ∷ b ∷ c ∷ d ∷ p) short some = absurd (omega arith)

pub escape_long : (p : List ℕ) → 4 ≤ length p → escape_digits p ≡ (
    if (slice_index_or p 0 0 == 92 && slice_index_or p 1 0 == 120) && (is_word (slice_index_or p 2 0) && is_word (slice_index_or p 3 0))
    then behind (slice_index_or p 2 0 ∷ slice_index_or p 3 0 ∷ []) (escape_digits (take (length p - 4) (drop 4 p))) else None)
escape_long [] long = absurd (omega arith)
escape_long (a ∷ []) long = absurd (omega arith)
escape_long (a ∷ b ∷ []) long = absurd (omega arith)
escape_long (a ∷ b ∷ c ∷ []) long = absurd (omega arith)
escape_long (a ∷ b ∷ c ∷ d ∷ p) long =
    let whole : take (length (a ∷ b ∷ c ∷ d ∷ p) - 4) p ≡ p = (let e : length (a ∷ b ∷ c ∷ d ∷ p) - 4 ≡ length p = omega arith in rw e (take-length p)) in
    ap (λ (q : List ℕ). if (a == 92 && b == 120) && (is_word c && is_word d) then behind (c ∷ d ∷ []) (escape_digits q) else None) (sym whole)
