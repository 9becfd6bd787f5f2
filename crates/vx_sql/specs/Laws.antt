-- What engines read back of names, texts and patterns.
use Rattle.std.specs.Prelude.{◌≡◌, ℕ, false, ◌==◌, List, [], ◌∷◌, ◌++◌, Some, drop, length, chars, IsUtf8, if◌then◌else◌}
use Rattle.std.specs.List.{flat_map}
use Rattle.vx_dtype.specs.Types.{Name}
use Rattle.vx_source_types.specs.Tokens.{next}
use Rattle.vx_fn.specs.Values.{Part, just, part_of}
use Rattle.vx_sql.specs.declared.dialect.Dialect.{Dialect}
use Rattle.vx_sql.specs.declared.quotes.Quoting.{Quoting}
use Rattle.vx_sql.specs.Patterns.{like_escape, like_part}
use Rattle.vx_sql.specs.Quotes.{name_quote, name_sql, is_escaped, name_read, quoting_of, inside, opening, text_sql, anywhere, text_read}

-- a name that is written is read back behind its opening quote, and ends at its closing one, whatever follows but another quote
abbrev pub NamesReadBack : Type 0
NamesReadBack = (d : Dialect) (a : Name) (rest : List ℕ) → is_escaped d a ≡ false → (next rest == name_quote d) ≡ false → name_read d (drop 1 (name_sql d a ++ rest)) ≡ Some (a, rest)

-- so are characters, each as it stands inside a text
abbrev pub CharactersReadBack : Type 0
CharactersReadBack = (q : Quoting) (cs rest : List ℕ) → (next rest == 39) ≡ false → text_read q anywhere (flat_map (inside q) cs ++ 39 ∷ rest) ≡ Some (cs, rest)

-- and a whole text, behind what opens it
abbrev pub TextsReadBack : Type 0
TextsReadBack = (d : Dialect) (s : List ℕ) → IsUtf8 s → let q = quoting_of d s in text_read q anywhere (chars (drop (length (opening q)) (text_sql d s))) ≡ Some (chars s, [])

-- ---- patterns

-- the parts that an engine reads of a pattern of LIKE with the escape e, anywhere or behind an e
abbrev mutual
  pub like_read : ℕ → List ℕ → List Part
  like_read e [] = []
  like_read e (c ∷ cs) = if c == e then like_escaped e cs else part_of c ∷ like_read e cs

  pub like_escaped : ℕ → List ℕ → List Part
  like_escaped e [] = []
  like_escaped e (c ∷ cs) = just c ∷ like_read e cs

-- the parts of a pattern are read back as they are
abbrev pub PatternsReadBack : Type 0
PatternsReadBack = (d : Dialect) (ps : List Part) → like_read (like_escape d) (flat_map (like_part (like_escape d)) ps) ≡ ps
