-- What the calls of `check`, `plan` and `explain` answer.
use Rattle.std.specs.Prelude.{ℕ, List}
use Rattle.vx_command_pages.specs.Pages.{IsTypePage}
use Rattle.vx_command_pages.specs.PlanPages.{IsPlanPage}
use Rattle.vx_ffi_calls.specs.declared.pages.Page.{Page}
use Rattle.vx_ffi_calls.specs.declared.pages.Page.TheVariants.{Check, Plan, Explain}

-- the page of the expression over rows of the schema's type; of that of `explain` nothing is promised
abbrev pub IsPageOf : Page → List ℕ → List ℕ → List ℕ → Type 0
IsPageOf Check expression schema page = IsTypePage expression schema page
IsPageOf Plan expression schema page = IsPlanPage expression schema page
IsPageOf Explain expression schema page = Unit {0}
