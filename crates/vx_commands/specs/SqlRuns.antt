-- What two writers hold after a plan was to be written as SQL, and how that ended.
use Rattle.std.specs.Prelude.{◌≡◌, ◌⊎◌, ℕ, List, Option}
use Rattle.std.specs.Io.KnownBytes.{Keeps}
use Rattle.vx_command_pages.specs.declared.error.Status.{Status}
use Rattle.vx_command_pages.specs.declared.error.Status.TheVariants.{Failed}
use Rattle.vx_command_pages.specs.declared.sql.SqlError.{SqlError}
use Rattle.vx_command_pages.specs.SqlPages.{IsSqlPage, IsSqlError, sql_status_of}
use Rattle.vx_commands.specs.Commands.{EndsAtPage}
use Rattle.vx_commands.specs.declared.sql.SqlCommand.{SqlCommand}
use Rattle.vx_commands.specs.declared.sql.SqlTask.{SqlTask}
use Rattle.vx_commands.specs.declared.sql.SqlTask.TheVariants.{Plan, Explain}

-- what is printed; of `explain` nothing is promised
abbrev pub IsSqlText : SqlTask → SqlCommand → List ℕ → Type 0
IsSqlText Plan command page = IsSqlPage command.query.expression.text.now command.query.schema.text.now command.dialect command.table.now page
IsSqlText Explain command page = Unit {0}

-- why there is no such page
abbrev pub IsSqlErrorAt : SqlCommand → SqlError → Type 0
IsSqlErrorAt command c = IsSqlError command.query.expression.text.now command.query.schema.text.now command.dialect command.table.now c

-- the status is the error's, or tells that the message couldn't be written
abbrev pub EndsAtSqlError : SqlError → Status → Type 0
EndsAtSqlError c status = (status ≡ sql_status_of c) ⊎ (status ≡ Failed)

-- the page is on the first writer, and nothing on the second, or the other way round an error
abbrev pub EndsAsSql : SqlCommand → Option (List ℕ) → Option (List ℕ) → Option (List ℕ) → Option (List ℕ) → Status → Type 0
EndsAsSql command out out' err err' status =
    ((page : List ℕ) × IsSqlText command.work command page × EndsAtPage page out out' status × Keeps err err')
    ⊎ (Keeps out out' × ((c : SqlError) × IsSqlErrorAt command c × EndsAtSqlError c status))
