-- Patterns that were read, and the texts that they accept.
use Rattle.std.specs.Prelude.{ℕ, Bool, true, false, ◌==◌, List, map, chars}
use Rattle.vx_fn.specs.Values.{Part, any_text, any_one, just, parts, folded, matches}
use Rattle.vx_eval_like.specs.declared.parts.Part as program
use Rattle.vx_eval_like.specs.declared.parts.Part.TheVariants.{AnyText, AnyOne, Just}

-- what a part of the program stands for
abbrev pub part_view : program.Part → Part
part_view AnyText = any_text
part_view AnyOne = any_one
part_view (Just c) = just c

-- what the parts of the program stand for
abbrev pub parts_view : List program.Part → List Part
parts_view ps = map part_view ps

-- whether the part stands for any text
abbrev pub is_any_text : Part → Bool
is_any_text any_text = true
is_any_text any_one = false
is_any_text (just d) = false

-- whether the part stands for one character, and for this one
abbrev pub takes : Part → ℕ → Bool
takes any_text c = false
takes any_one c = true
takes (just d) c = c == d

-- the characters of a text, the ASCII capitals made small where the case is ignored
abbrev pub characters : Bool → List ℕ → List ℕ
characters ignore_case t = folded ignore_case (chars t)

-- the parts that a pattern's text spells
abbrev pub spelled_by : Bool → List ℕ → List Part
spelled_by ignore_case p = parts false (characters ignore_case p)

-- a pattern that was read: its parts, and whether the case is ignored
pub record Compiled : Type 0 where
  pub parts : List Part
  pub ignore_case : Bool

-- what is read from the pattern
abbrev pub compiled : Bool → List ℕ → Compiled
compiled ci p = record { parts = spelled_by ci p; ignore_case = ci }

-- whether the pattern spells the text
abbrev pub accepts : Compiled → List ℕ → Bool
accepts pattern t = matches pattern.parts (characters pattern.ignore_case t)
