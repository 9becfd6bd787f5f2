-- The names of a function's children, by their index.
use Rattle.std.specs.Prelude.{ℕ, ◌*◌, ◌/◌, ◌%◌, ◌==◌, ◌++◌, [], codes, get_or, if◌then◌else◌}
use Rattle.std.specs.Fmt.{decimal}
use Rattle.vx_value.specs.Types.{Name}
use Rattle.vx_fn.specs.Functions.{Function, case_when, literal, pack, select, fill_null, zip, binary, between, like, mask, starts_with, list_contains}

-- a word for the first child, and one for the second
abbrev pub word_of_two : Name → Name → ℕ → Name
word_of_two first second i = if i == 0 then first else second

-- a word for the first child, one for the second, and one for the third
abbrev pub word_of_three : Name → Name → Name → ℕ → Name
word_of_three first second third i = if i == 0 then first else if i == 1 then second else third

-- `when_0`, `then_0`, `when_1`, `then_1`, .., and `else` behind the pairs
abbrev pub case_child_name : ℕ → ℕ → Name
case_child_name pairs i = if i == 2 * pairs then codes "else" else word_of_two (codes "when_") (codes "then_") (i % 2) ++ decimal (i / 2)

-- the name of the child at the index, where the function's options don't tell
abbrev pub child_word : Function → ℕ → Name
child_word (literal t v) i = []
child_word (select selection) i = codes "child"
child_word fill_null i = word_of_two (codes "input") (codes "fill_value") i
child_word zip i = word_of_three (codes "if_true") (codes "if_false") (codes "mask") i
child_word (binary op) i = word_of_two (codes "lhs") (codes "rhs") i
child_word (between lower_strict upper_strict) i = word_of_three (codes "array") (codes "lower") (codes "upper") i
child_word (like negated case_insensitive) i = word_of_two (codes "child") (codes "pattern") i
child_word mask i = word_of_two (codes "input") (codes "mask") i
child_word starts_with i = word_of_two (codes "input") (codes "prefix") i
child_word list_contains i = word_of_two (codes "list") (codes "needle") i
child_word _ i = codes "input"

-- the name of the child at the index
abbrev pub child_name_of : Function → ℕ → Name
child_name_of (case_when pairs has_else) i = case_child_name pairs i
child_name_of (pack names n) i = get_or names i []
child_name_of f i = child_word f i
