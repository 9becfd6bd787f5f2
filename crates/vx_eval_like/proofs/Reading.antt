-- How a text is read, one character after another.
use Rattle.std.proofs.Common.{◌≡◌, ℕ, List, [], ◌∷◌, ◌++◌, Bool, true, false, map, ap, refl, length, ◌==◌, if◌then◌else◌, sym, ◌∙◌, arith}
use Rattle.std.proofs.lemmas.Bool.{ne_eqb}
use Rattle.std.proofs.lemmas.Str.{chars-nil, chars_past_char, encodes-chars}
use Rattle.std.specs.Char.{to_ascii_lowercase}
use Rattle.std.specs.Prelude.{encode_utf8, encode_utf8_all}
use Rattle.std.specs.Str.{chars, IsUtf8}
use Rattle.vx_fn.specs.Values.{folded, matches}
use Rattle.vx_eval_like.specs.Patterns.{characters}

-- a character of a text comes off folded
pub characters-cons : (ci : Bool) (t left rest : List ℕ) (c small : ℕ) → IsUtf8 t → t ≡ encode_utf8 c ++ left → rest ≡ left → small ≡ (if ci then to_ascii_lowercase c else c) → characters ci t ≡ small ∷ characters ci rest
characters-cons true t left rest c small u e r s = let mapped = ap (map to_ascii_lowercase) (chars_past_char t left c u e) in rw r (cc)
characters-cons false t left rest c small u e r s = let whole = chars_past_char t left c u e in rw r (cc)

-- no parts match a text without a character alone
pub matches-nothing : (ci : Bool) (t : List ℕ) → IsUtf8 t → matches [] (characters ci t) ≡ (length t == 0)
matches-nothing true [] u = rw chars-nil
matches-nothing false [] u = rw chars-nil
matches-nothing ci (b ∷ bs) u = spelt ci (chars (b ∷ bs)) (encodes-chars (b ∷ bs) u) ∙ sym (ne_eqb (length (b ∷ bs)) 0 (λ e. omega (arith, e)))
  where
    spelt : (ci : Bool) (cs : List ℕ) → encode_utf8_all cs ≡ b ∷ bs → matches [] (folded ci cs) ≡ false
    spelt ci [] e = cc
    spelt true (c ∷ cs) e = refl
    spelt false (c ∷ cs) e = refl
