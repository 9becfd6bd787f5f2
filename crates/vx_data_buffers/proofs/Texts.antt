-- Bytes that are a text, and those that are none.
use Rattle.std.proofs.Common.{◌≡◌, ℕ, Bool, true, false, List, refl, sym, ap, ◌∙◌, rules, Global}
use Rattle.std.specs.Prelude.{IsUtf8, Ok, Err, string_bytes, if◌then◌else◌}
use Rattle.std.specs.declared.string.String.{String}
use Rattle.std.specs.Str.{is_utf8}
use Rattle.std.proofs.lemmas.Str.{IsUtf8-from_is_utf8, is_utf8-from_IsUtf8}
use Rattle.vx_value.specs.declared.value.Value.{Utf8, the_lemmas}
use Rattle.vx_value.specs.Types.{utf8}
use Rattle.vx_value.specs.Views.{value_of}
use Rattle.vx_data_buffers.specs.Layout.{text_of}
use Rattle.vx_data_buffers.specs.declared.fault.Fault.TheVariants.{NotUtf8}

is_text : (at : ℕ) (bs : List ℕ) → IsUtf8 bs → text_of at bs ≡ Ok (utf8 bs)
is_text at bs h = rw (is_utf8-from_IsUtf8 bs h)

-- the value of a text that was read
pub is_text_value : (at : ℕ) (bs : List ℕ) (text : String Global) → IsUtf8 bs → string_bytes text ≡ bs → text_of at bs ≡ Ok (value_of (Utf8 text))
is_text_value at bs text h e =
    let shown : value_of (Utf8 text) ≡ utf8 (string_bytes text) = search (rules, the_lemmas) in
    is_text at bs h ∙ ap (λ v. Ok v) (sym (shown ∙ ap utf8 e))

pub is_no_text : (at : ℕ) (bs : List ℕ) → ¬ (IsUtf8 bs) → text_of at bs ≡ Err (NotUtf8 at)
is_no_text at bs h = go (is_utf8 bs) refl
  where
    go : (b : Bool) → is_utf8 bs ≡ b → (if b then Ok (utf8 bs) else Err (NotUtf8 at)) ≡ Err (NotUtf8 at)
    go true e = absurd (h (IsUtf8-from_is_utf8 bs e))
    go false e = refl
