use Rattle.std.proofs.Common.{◌≡◌, ◌∙◌, ap, length, rules, subst, sym}
use Rattle.std.specs.Prelude.{Ok}
use Rattle.vx_value.specs.Deciding.{equal_batch-Decides}
use Rattle.vx_value.specs.Views.{type_of}
use Rattle.vx_data_buffers.specs.Bytes.{bytes_in}
use Rattle.vx_data_buffers.specs.Laid.{lists_in}
use Rattle.vx_data_buffers.specs.Rows.{column_said}
use Rattle.vx_data_buffers.proofs.read_back.reads_back.Goals as goal

pub returns-in-Ok-column_of : goal.returns-in-Ok-column_of
returns-in-Ok-column_of c = λ equal.
    let column = c.args.column.now in
    let read = c.in-Ok-column_of.read in
    let same : read ≡ column = (equal_batch-Decides read column).0 (sym c.eq.ensures ∙ equal) in
    let typed : type_of c.in-Ok.dtype ≡ column.type = search rules in
    let lent : bytes_in c.as_slice.result.now ≡ lists_in c.args.buffers.now = ap bytes_in c.as_slice.ensures.value ∙ c.in_ok-lent.ensures in
    let said : column_said (bytes_in c.as_slice.result.now) (type_of c.in-Ok.dtype) c.len.result ≡ Ok read = c.in-Ok-column_of.ensures in
    subst (λ bs. column_said bs column.type (length column.rows) ≡ Ok column) lent
    (subst (λ n. column_said (bytes_in c.as_slice.result.now) column.type n ≡ Ok column) c.len.ensures
    (subst (λ t. column_said (bytes_in c.as_slice.result.now) t c.len.result ≡ Ok column) typed (said ∙ ap Ok same)))
