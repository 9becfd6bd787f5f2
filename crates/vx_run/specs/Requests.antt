-- The rows that the program shows, and what words ask for.
use Rattle.std.specs.Prelude.{ℕ, List, [], ◌∷◌, Option, Some, None, Result, Err, ok_or, if◌then◌else◌, codes}
use Rattle.std.specs.Str.{bytes_eq}
use Rattle.vx_run.specs.declared.row.Row.{Row}
use Rattle.vx_run.specs.declared.row.Row.TheVariants.{Kleene, Coalesce, Cases, Fused, Branches, Scan}

-- the row of that name
abbrev pub row_named : List ℕ → Option Row
row_named name =
    if bytes_eq name (codes "kleene") then Some Kleene
    else if bytes_eq name (codes "coalesce") then Some Coalesce
    else if bytes_eq name (codes "cases") then Some Cases
    else if bytes_eq name (codes "fused") then Some Fused
    else if bytes_eq name (codes "branches") then Some Branches
    else if bytes_eq name (codes "scan") then Some Scan
    else None

-- the complaint about a number of words other than one
abbrev pub usage_text : List ℕ
usage_text = codes "usage: vx_show ROW\n"

-- the complaint about a word that names no row
abbrev pub unknown_text : List ℕ
unknown_text = codes "unknown row\n"

-- the row that the words name, or the complaint that is made of them
abbrev pub asked : List (List ℕ) → Result Row (List ℕ)
asked (name ∷ []) = ok_or (row_named name) unknown_text
asked _ = Err usage_text
