-- What two writers hold after a run of the program, and how it ended.
use Rattle.std.specs.Prelude.{◌≡◌, ◌⊎◌, ℕ, List, Option}
use Rattle.std.specs.Io.KnownBytes.{Appends, Keeps}
use Rattle.vx_writing.specs.Writing.{Breaks}
use Rattle.vx_command_pages.specs.declared.error.CommandError.{CommandError}
use Rattle.vx_command_pages.specs.declared.error.Status.{Status}
use Rattle.vx_command_pages.specs.declared.error.Status.TheVariants.{Done, Failed}
use Rattle.vx_command_pages.specs.Inputs.{IsCommandError, IsUnread, status_of}
use Rattle.vx_command_pages.specs.Pages.{IsSourcePage, IsTypePage}
use Rattle.vx_command_pages.specs.PlanPages.{IsPlanPage}
use Rattle.vx_commands.specs.declared.command.Command.{Command}
use Rattle.vx_commands.specs.declared.command.Command.TheVariants.{Check, Explain, Format, Plan, Graph}

-- what the command prints; of `explain` and `dot` nothing is promised
abbrev pub IsPage : Command → List ℕ → Type 0
IsPage (Check q) page = IsTypePage q.expression.text.now q.schema.text.now page
IsPage (Explain q) page = Unit {0}
IsPage (Format e) page = IsSourcePage e.text.now page
IsPage (Plan q) page = IsPlanPage q.expression.text.now q.schema.text.now page
IsPage (Graph q) page = Unit {0}

-- why the command prints nothing
abbrev pub IsCommandErrorAt : Command → CommandError → Type 0
IsCommandErrorAt (Check q) c = IsCommandError q.expression.text.now q.schema.text.now c
IsCommandErrorAt (Explain q) c = IsCommandError q.expression.text.now q.schema.text.now c
IsCommandErrorAt (Format e) c = IsUnread e.text.now c
IsCommandErrorAt (Plan q) c = IsCommandError q.expression.text.now q.schema.text.now c
IsCommandErrorAt (Graph q) c = IsCommandError q.expression.text.now q.schema.text.now c

-- the page was written whole, or broke off where the writer failed
abbrev pub EndsAtPage : List ℕ → Option (List ℕ) → Option (List ℕ) → Status → Type 0
EndsAtPage page out out' status = ((status ≡ Done) × Appends out out' page) ⊎ ((status ≡ Failed) × Breaks out out' page)

-- the status is the error's, or tells that the message couldn't be written
abbrev pub EndsAtError : CommandError → Status → Type 0
EndsAtError c status = (status ≡ status_of c) ⊎ (status ≡ Failed)

-- the page is on the first writer, and nothing on the second, or the other way round an error
abbrev pub EndsCommand : Command → Option (List ℕ) → Option (List ℕ) → Option (List ℕ) → Option (List ℕ) → Status → Type 0
EndsCommand command out out' err err' status =
    ((page : List ℕ) × IsPage command page × EndsAtPage page out out' status × Keeps err err')
    ⊎ (Keeps out out' × ((c : CommandError) × IsCommandErrorAt command c × EndsAtError c status))
