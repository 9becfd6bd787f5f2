-- What the commands print.
use Rattle.std.specs.Prelude.{◌≡◌, ◌++◌, ℕ, List, [], ◌∷◌, Ok}
use Rattle.vx_value.specs.Types.{LogicalType}
use Rattle.vx_tree.specs.Trees.{Tree, typed}
use Rattle.vx_source_types.specs.TypeTexts.{type_source}
use Rattle.vx_source_writer.specs.SourceTexts.{source}
use Rattle.vx_command_pages.specs.Inputs.{Reads, ReadsAs, ReadsType}

-- a text, and the end of its line
abbrev pub line : List ℕ → List ℕ
line text = text ++ 10 ∷ []

-- the page is the source text of the expression that the text is read as
abbrev pub IsSourcePage : List ℕ → List ℕ → Type 0
IsSourcePage text page = (e : Tree) × Reads text e × (page ≡ line (source e))

-- the page is the type, over the scope's type that the schema is read as, of the expression that the text is read as
abbrev pub IsTypePage : List ℕ → List ℕ → List ℕ → Type 0
IsTypePage text schema page = (e : Tree) × (s t : LogicalType) × ReadsAs text s e × ReadsType schema s × (typed e s ≡ Ok t) × (page ≡ line (type_source t))
