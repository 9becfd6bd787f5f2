use Rattle.std.proofs.Common.{◌≡◌, ◌∙◌, ap, sym, rules}
use Rattle.std.specs.Prelude.{string_bytes}
use Rattle.std.specs.Str.{IsUtf8}
use Rattle.vx_value.specs.Types.{utf8}
use Rattle.vx_value.specs.Views.{value_of}
use Rattle.vx_array.proofs.Reading.{text_read, value_of-Utf8}
use Rattle.vx_array_kernels.proofs.byte_kind.TextKindByteKind.bytes_of.Goals as goal

pub returns-in-Utf8 : goal.returns-in-Utf8
returns-in-Utf8 c =
    let bytes = c.as_bytes-in-Utf8.result.now in
    let same : bytes ≡ string_bytes c.in-Utf8.text = search rules in
    let valid : IsUtf8 bytes = search rules in
    sym (text_read bytes valid) ∙ ap utf8 same ∙ sym (ap value_of c.in-Utf8.is ∙ value_of-Utf8 c.in-Utf8.text)
