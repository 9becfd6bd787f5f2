-- What stands below rows that are null.
use Rattle.std.proofs.Common.{◌≡◌, ℕ, List, length, get_or, sym, ap, ◌∙◌, refl, Bool, true, false}
use Rattle.std.specs.Prelude.{if◌then◌else◌}
use Rattle.std.proofs.lemmas.List.{ext_get_or}
use Rattle.vx_value.specs.Types.{Datum, null}
use Rattle.vx_array.specs.declared.validity.Validity.{Validity}
use Rattle.vx_array.specs.Shown.{shown, is_valid, shown_count}
use Rattle.vx_array.proofs.Masked.{length-shown, get_or-shown}

-- values that are the same where they are valid
pub hidden : (v : Validity) (ds es : List Datum) → length ds ≡ length es → ((k : ℕ) → is_valid v k ≡ true → get_or ds k null ≡ get_or es k null) → shown v ds ≡ shown v es
hidden v ds es long same =
    ext_get_or null (shown v ds) (shown v es) (length-shown v ds ∙ ap (shown_count v) long ∙ sym (length-shown v es)) (λ k lt. get_or-shown v ds k ∙ go k (is_valid v k) refl ∙ sym (get_or-shown v es k))
  where
    go : (k : ℕ) (b : Bool) → is_valid v k ≡ b → (if b then get_or ds k null else null) ≡ (if b then get_or es k null else null)
    go k true e = same k e
    go k false e = refl
