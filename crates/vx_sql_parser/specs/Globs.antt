-- The patterns of GLOB.
use Rattle.std.specs.Prelude.{ℕ, Bool, ◌==◌, ◌&&◌, List, [], ◌∷◌, Option, Some, None, if◌then◌else◌}
use Rattle.std.specs.Char.{is_ascii_alphabetic, is_ascii_lowercase, to_ascii_uppercase}
use Rattle.vx_sql_parser.specs.Patterns.{as_text, behind, is_sign, put}

-- whether these are a small letter of ASCII and its capital
abbrev pub is_pair : ℕ → ℕ → Bool
is_pair c d = is_ascii_lowercase c && d == to_ascii_uppercase c

-- a character that stands for itself, before what follows; none is a letter where the case is ignored
abbrev pub just : Bool → ℕ → Option (List ℕ) → Option (List ℕ)
just ignores c more = if ignores && is_ascii_alphabetic c then None else behind (put (is_sign c) c) more

-- the pattern as source text has it: `*` is any text, and `?` any character. Between brackets stands one character, for
-- itself; or, where the case is ignored, a small letter before its capital, for both
abbrev mutual
  pub globbed : Bool → List ℕ → Option (List ℕ)
  globbed ignores [] = Some []
  globbed ignores (c ∷ cs) =
      if c == 91 then bracketed ignores cs else (
      if c == 42 then behind (37 ∷ []) (globbed ignores cs) else (
      if c == 63 then behind (95 ∷ []) (globbed ignores cs) else just ignores c (globbed ignores cs)))

  pub bracketed : Bool → List ℕ → Option (List ℕ)
  bracketed ignores (c ∷ d ∷ cs) = if d == 93 then (if c == 94 then None else just ignores c (globbed ignores cs)) else paired ignores (ignores && is_pair c d) c cs
  bracketed ignores _ = None

  pub paired : Bool → Bool → ℕ → List ℕ → Option (List ℕ)
  paired ignores are c (d ∷ cs) = if d == 93 && are then behind (c ∷ []) (globbed ignores cs) else None
  paired ignores are c [] = None

abbrev pub glob_source : Bool → List ℕ → Option (List ℕ)
glob_source ignores p = as_text (globbed ignores p)

-- the part that was read, if one was, and what follows
abbrev pub part_of : Bool → Option (Bool × ℕ × List ℕ) → Option (List ℕ)
part_of ignores None = None
part_of ignores (Some (escaped, c, rest)) = behind (put escaped c) (globbed ignores rest)
