-- Bytes that are a text, and others.
use Rattle.std.proofs.Common.{◌≡◌, Bool, true, false, List, ℕ, Some, None, refl}
use Rattle.std.specs.Str.{IsUtf8, is_utf8}
use Rattle.std.proofs.lemmas.Bool.{cond-true, cond-false}
use Rattle.std.proofs.lemmas.Str.{IsUtf8-from_is_utf8, is_utf8-from_IsUtf8}
use Rattle.vx_sql_parser.specs.SqlTokens.{utf8}

not_utf8 : (b : Bool) (bs : List ℕ) → is_utf8 bs ≡ b → ¬ (IsUtf8 bs) → b ≡ false
not_utf8 true bs e h = absurd (h (IsUtf8-from_is_utf8 bs e))
not_utf8 false bs e h = refl

pub utf8_is : (bs : List ℕ) → IsUtf8 bs → utf8 bs ≡ Some bs
utf8_is bs h = cond-true (is_utf8 bs) (Some bs) None (is_utf8-from_IsUtf8 bs h)

pub utf8_isnt : (bs : List ℕ) → ¬ (IsUtf8 bs) → utf8 bs ≡ None
utf8_isnt bs h = cond-false (is_utf8 bs) (Some bs) None (not_utf8 (is_utf8 bs) bs refl h)
