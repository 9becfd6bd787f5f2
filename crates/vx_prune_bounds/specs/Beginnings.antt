-- The fixed beginning of a pattern of LIKE, and texts that don't begin so.
use Rattle.std.specs.Prelude.{ℕ, Bool, true, false, ◌&&◌, ◌||◌, not, List, [], ◌∷◌, Option, Some, None, if◌then◌else◌, nat_eq, length, take, chars, encode_utf8_all}
use Rattle.std.specs.List.{starts_with}
use Rattle.std.specs.Ordering.{nat_cmp}
use Rattle.std.specs.Cmp.Lexicographic.{slice_cmp}
use Rattle.std.specs.declared.cmp.Ordering.{Ordering}
use Rattle.vx_value.specs.Types.{Datum, utf8}
use Rattle.vx_fn.specs.Values.{Part, just, parts}
use Rattle.vx_prune_bounds.specs.Order.{at_most, below}
use Rattle.vx_prune_bounds.specs.Bounds.{Bounds}
use Rattle.vx_prune_bounds.specs.declared.truths.Truths.{Truths}
use Rattle.vx_prune_bounds.specs.Truths.{truths, not_truths}

-- the characters that each text which the parts spell begins with
abbrev pub fixed_characters : List Part → List ℕ
fixed_characters (just c ∷ ps) = c ∷ fixed_characters ps
fixed_characters _ = []

-- the bytes that each text which is like the pattern begins with: none where the case is ignored
abbrev pub beginning : Bool → List ℕ → List ℕ
beginning true p = []
beginning false p = encode_utf8_all (fixed_characters (parts false (chars p)))

-- how a beginning compares with as many bytes of the text: Equal where the text begins so
abbrev pub beginning_cmp : List ℕ → List ℕ → Ordering
beginning_cmp q t = slice_cmp nat_cmp q (take (length q) t)

-- whether the value is a text that begins with these bytes
abbrev pub begins : List ℕ → Datum → Bool
begins q (utf8 t) = starts_with nat_eq t q
begins q _ = false

-- whether the value and all behind it come behind each text that begins with these bytes
abbrev pub is_past : List ℕ → Option Datum → Bool
is_past q (Some l) = at_most (utf8 q) l && not (begins q l)
is_past q None = false

-- whether the value and all before it come before each text that begins with these bytes
abbrev pub is_before : List ℕ → Option Datum → Bool
is_before q (Some g) = below g (utf8 q)
is_before q None = false

-- whether no text within the bounds is like the pattern, as far as its beginning tells
abbrev pub none_like : Bool → Bounds → List ℕ → Bool
none_like ignore_case x p = is_before (beginning ignore_case p) x.greatest || is_past (beginning ignore_case p) x.least

-- the text between these two ends, where it is the only one
abbrev pub text_between : Option Datum → Option Datum → Option (List ℕ)
text_between (Some (utf8 p)) (Some g) = if at_most g (utf8 p) then Some p else None
text_between _ _ = None

-- the only text that a value within the bounds may be, where there is but one
abbrev pub only_text : Bounds → Option (List ℕ)
only_text x = text_between x.least x.greatest

-- whether the pattern is known, and no text within the bounds is like it
abbrev pub surely_unlike : Bool → Bounds → Option (List ℕ) → Bool
surely_unlike ignore_case x (Some p) = none_like ignore_case x p
surely_unlike ignore_case x None = false

-- the same, turned round where it is negated
abbrev pub flipped_truths : Bool → Truths → Truths
flipped_truths negated t = if negated then not_truths t else t

-- what LIKE may give: null where one may be null; true or false where both may be texts, but true only if the pattern isn't surely unlike; the other way round where it is negated
abbrev pub like_truths : (negated ignore_case : Bool) → Bounds → Bounds → Truths
like_truths negated ignore_case x p =
    flipped_truths negated (truths (x.null || p.null) (x.value && p.value) ((x.value && p.value) && not (surely_unlike ignore_case x (only_text p))))
