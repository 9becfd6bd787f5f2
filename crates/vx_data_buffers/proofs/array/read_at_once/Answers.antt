use Rattle.std.proofs.Common.{◌≡◌, ◌∙◌, arith, length, subst}
use Rattle.std.specs.Prelude.{IfSome}
use Rattle.std.proofs.lemmas.List.{length-map}
use Rattle.vx_value.specs.Views.{type_of}
use Rattle.vx_data_buffers.specs.Arrays.{IsColumn}
use Rattle.vx_data_buffers.specs.Bytes.{bytes_in}
use Rattle.vx_data_buffers.specs.Layout.{buffer_count}
use Rattle.vx_data_buffers.proofs.Columns.{said_whole}
use Rattle.vx_data_buffers.proofs.array.read_at_once.Goals as goal

pub returns-in-Ok-Some-clause-said : goal.returns-in-Ok-Some-clause-said
returns-in-Ok-Some-clause-said c =
    let bs = bytes_in c.args.buffers.now in
    let dtype = type_of c.args.dtype.now in
    let counted : c.in_ok-expected.expected ≡ buffer_count dtype = grind arith in
    let many : length c.args.buffers.now ≡ buffer_count dtype = omega (arith, counted) in
    said_whole bs dtype c.args.rows c.in-Ok-Some.array (length-map c.args.buffers.now _ ∙ many) c.lanes.ensures.fit
    (subst (λ found. IfSome found (IsColumn bs dtype 0 c.args.rows)) c.in-Ok-Some.field-0-is c.in-Ok-Some.ensures)
