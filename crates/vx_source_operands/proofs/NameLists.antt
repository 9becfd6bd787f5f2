-- Names with commas between them.
use Rattle.std.proofs.Common.{◌≡◌, List, [], ◌∷◌, ◌++◌, Option, Some, None, refl, sym, ap, ◌∙◌, append_assoc}
use Rattle.vx_value.specs.Types.{Name}
use Rattle.vx_source_types.specs.declared.token.Sign.TheVariants.{Comma}
use Rattle.vx_source_types.specs.Tokens.{Lexeme, word, quoted, sign}
use Rattle.vx_source_grammar.specs.OptionReading.{more_read, name_then}
use Rattle.vx_source_operands.specs.Parts.{next_name}

-- the names in front of those that are read
abbrev pub onto : List Name → List Name × List Lexeme → List Name × List Lexeme
onto names (more, rest) = (names ++ more, rest)

-- what is read where that name stands next, if there is one
abbrev pub with_next : List Lexeme → Option (Name × List Lexeme) → List Name × List Lexeme
with_next xs (Some (a, rest)) = name_then a (more_read rest)
with_next xs None = ([], xs)

more_is : (xs : List Lexeme) → more_read xs ≡ with_next xs (next_name xs)
more_is (sign Comma ∷ word a ∷ xs) = refl
more_is (sign Comma ∷ quoted a ∷ xs) = refl
more_is xs = refl

onto_name : (names : List Name) (a : Name) (read : List Name × List Lexeme) → onto names (name_then a read) ≡ onto (names ++ a ∷ []) read
onto_name names a (more, rest) = ap (λ ns. (ns, rest)) (sym (append_assoc names (a ∷ []) more))

-- a name that stands next is the first of those that are read
pub next_onto : (names : List Name) (xs rest : List Lexeme) (a : Name) → next_name xs ≡ Some (a, rest) → onto names (more_read xs) ≡ onto (names ++ a ∷ []) (more_read rest)
next_onto names xs rest a e = ap (onto names) (more_is xs ∙ ap (with_next xs) e) ∙ onto_name names a (more_read rest)
