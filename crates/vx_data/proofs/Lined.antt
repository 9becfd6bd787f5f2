-- Lines of JSON, one row at a time.
use Rattle.std.proofs.Common.{◌≡◌, ℕ, ◌+◌, ◌<◌, List, [], ◌∷◌, ◌++◌, length, get_or, map, take, sym, ap, ◌∙◌, append_assoc, append-nil}
use Rattle.std.proofs.lemmas.Grind.{flat_map-append}
use Rattle.std.proofs.lemmas.List.{map-append, take_more}
use Rattle.vx_value.specs.declared.value.Value.{Value}
use Rattle.vx_value.specs.Types.{LogicalType}
use Rattle.vx_value.specs.Views.{value_of}
use Rattle.vx_data.specs.Lines.{json_line, json_lines}

-- the lines of the rows before the i-th
abbrev pub lines_before : LogicalType → List Value → ℕ → List ℕ
lines_before t rows i = json_lines t (map value_of (take i rows))

line_more : (t : LogicalType) (rows : List Value) (i : ℕ) (v : Value) → i < length rows → v ≡ get_or rows i v → lines_before t rows (i + 1) ≡ lines_before t rows i ++ json_line t (value_of v)
line_more t rows i v h e =
    ap (λ vs. json_lines t (map value_of vs)) (take_more rows i v h)
    ∙ ap (json_lines t) (map-append value_of (take i rows) (get_or rows i v ∷ []))
    ∙ flat_map-append (json_line t) (map value_of (take i rows)) (value_of (get_or rows i v) ∷ [])
    ∙ ap (λ line. lines_before t rows i ++ line) (append-nil (json_line t (value_of (get_or rows i v))))
    ∙ ap (λ (x : Value). lines_before t rows i ++ json_line t (value_of x)) (sym e)

-- behind what was written there are the lines that wait, and behind these the next one
pub line_behind : (t s : LogicalType) (rows : List Value) (i : ℕ) (v : Value) (done lines more : List ℕ) → s ≡ t → i < length rows → v ≡ get_or rows i v
    → more ≡ lines ++ json_line s (value_of v) → done ++ lines ≡ lines_before t rows i → done ++ more ≡ lines_before t rows (i + 1)
line_behind t s rows i v done lines more same h e is so_far =
    ap (λ ls. done ++ ls) is ∙ sym (append_assoc done lines _) ∙ ap (λ u. (done ++ lines) ++ json_line u (value_of v)) same
    ∙ ap (λ ls. ls ++ json_line t (value_of v)) so_far ∙ sym (line_more t rows i v h e)
