-- What two writers hold after a run of the program, and its status.
use Rattle.std.specs.Prelude.{◌⊎◌, ℕ, List, Option, Result, MatchResult, codes}
use Rattle.std.specs.Io.KnownBytes.{Keeps}
use Rattle.vx_run.specs.declared.row.Row.{Row}
use Rattle.vx_run.specs.Pages.{page_of}
use Rattle.vx_writing.specs.Writing.{Tells}

-- the complaint where memory is refused
abbrev pub memory_text : List ℕ
memory_text = codes "out of memory\n"

-- the row's page is on the first writer, or memory was refused before its first byte
abbrev pub EndsAtRow : Row → Option (List ℕ) → Option (List ℕ) → Option (List ℕ) → Option (List ℕ) → ℕ → Type 0
EndsAtRow row out out' err err' status =
    (Tells out out' (page_of row) 0 status × Keeps err err')
    ⊎ (Keeps out out' × Tells err err' memory_text 1 status)

-- the complaint is on the second writer
abbrev pub EndsAtNone : List ℕ → Option (List ℕ) → Option (List ℕ) → Option (List ℕ) → Option (List ℕ) → ℕ → Type 0
EndsAtNone complaint out out' err err' status = Keeps out out' × Tells err err' complaint 2 status

-- a run on what was asked
abbrev pub EndsShow : Result Row (List ℕ) → Option (List ℕ) → Option (List ℕ) → Option (List ℕ) → Option (List ℕ) → ℕ → Type 0
EndsShow request out out' err err' status =
    MatchResult request
    (λ row. EndsAtRow row out out' err err' status)
    (λ complaint. EndsAtNone complaint out out' err err' status)
