-- What a test of a beginning may give of texts within bounds.
use Rattle.std.specs.Prelude.{ℕ, Bool, false, ◌&&◌, ◌||◌, not, List, Option, Some, None, chars, encode_utf8_all}
use Rattle.vx_prune_bounds.specs.Bounds.{Bounds}
use Rattle.vx_prune_bounds.specs.declared.truths.Truths.{Truths}
use Rattle.vx_prune_bounds.specs.Truths.{truths}
use Rattle.vx_prune_bounds.specs.Beginnings.{is_before, is_past, only_text}

-- the bytes of a text's characters: those of the text, where it is UTF-8
abbrev pub bytes_of : List ℕ → List ℕ
bytes_of p = encode_utf8_all (chars p)

-- whether no text within the bounds begins with that one, as far as its ends tell
abbrev pub none_begins : Bounds → List ℕ → Bool
none_begins x p = is_before (bytes_of p) x.greatest || is_past (bytes_of p) x.least

-- whether the beginning is known, and no text within the bounds begins with it
abbrev pub surely_otherwise : Bounds → Option (List ℕ) → Bool
surely_otherwise x (Some p) = none_begins x p
surely_otherwise x None = false

-- null where one may be null; true or false where both may be texts, but true only if a text may begin so
abbrev pub begun_truths : Bounds → Bounds → Truths
begun_truths x p = truths (x.null || p.null) (x.value && p.value) ((x.value && p.value) && not (surely_otherwise x (only_text p)))
