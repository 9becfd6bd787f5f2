-- How a command ends that stopped at an error.
use Rattle.std.proofs.Common.{◌≡◌, ◌⊎◌, inl, inr, refl, ◌∙◌}
use Rattle.vx_command_pages.specs.declared.error.CommandError.{CommandError}
use Rattle.vx_command_pages.specs.declared.error.CommandError.TheVariants.{OutOfMemory, UnreadExpression, UnreadSchema, Unfit, Refused}
use Rattle.vx_command_pages.specs.declared.error.Status.{Status}
use Rattle.vx_command_pages.specs.declared.error.Status.TheVariants.{Failed}
use Rattle.vx_command_pages.specs.Inputs.{status_of as page_status}
use Rattle.vx_data.specs.declared.error.DataError.TheVariants.{OutOfMemory as NoRoomToRead, Read as Unreadable, Unexpected}
use Rattle.vx_data.specs.declared.error.WriteError.TheVariants.{OutOfMemory as NoRoomToWrite, Write as WriterFailed, Unwritable}
use Rattle.vx_records.specs.declared.error.RecordsError.TheVariants.{OutOfMemory as NoRoom, Data, Fault, Write as Writing}
use Rattle.vx_commands.specs.declared.error.RowsError.{RowsError}
use Rattle.vx_commands.specs.declared.error.RowsError.TheVariants.{Query, NotBool, Records}
use Rattle.vx_commands.specs.Guesses.{IsOfError}
use Rattle.vx_commands.specs.Rows.{status_of}

of_page : (c : CommandError) → IsOfError (page_status c)
of_page OutOfMemory = inr refl
of_page (UnreadExpression at expected) = inl refl
of_page (UnreadSchema at expected) = inl refl
of_page (Unfit literal) = inl refl
of_page (Refused span refusal remedy) = inl refl

of_rows : (e : RowsError) → IsOfError (status_of e)
of_rows (Query c) = of_page c
of_rows (NotBool t) = inl refl
of_rows (Records (Data (Unexpected line at expected)) span) = inl refl
of_rows (Records (Fault f) span) = inl refl
of_rows (Records (Writing (Unwritable row at expected)) span) = inl refl
of_rows (Records NoRoom span) = inr refl
of_rows (Records (Data NoRoomToRead) span) = inr refl
of_rows (Records (Data (Unreadable e)) span) = inr refl
of_rows (Records (Writing NoRoomToWrite) span) = inr refl
of_rows (Records (Writing (WriterFailed e)) span) = inr refl

-- the status that is told of an error
pub told : (wanted status : Status) → IsOfError wanted → (status ≡ wanted) ⊎ (status ≡ Failed) → IsOfError status
told wanted status (inl wrong) (inl same) = inl (same ∙ wrong)
told wanted status (inr failed) (inl same) = inr (same ∙ failed)
told wanted status error (inr failed) = inr failed

-- the status of an error
pub ends : (e : RowsError) (status : Status) → status ≡ status_of e → IsOfError status
ends e status same = told (status_of e) status (of_rows e) (inl same)
