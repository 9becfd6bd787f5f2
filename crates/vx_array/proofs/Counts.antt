-- How many lanes there are in lanes, themselves among them: what a call for each of the lanes below counts down.
use Rattle.std.proofs.Common.{◌≡◌, ℕ, zero, suc, ◌+◌, ◌<◌, ◌≤◌, List, [], ◌∷◌, map, length, get_or, ap, arith, rules, Vec}
use Rattle.std.specs.declared.alloc.Global.{Global}
use Rattle.std.specs.declared.sync.Arc.{Arc}
use Rattle.vx_array.specs.declared.lanes.Lanes as Kind
use Rattle.vx_array.specs.declared.lanes.Lanes.{Lanes, fold-Lanes}
use Rattle.vx_array.specs.declared.lanes.Lanes.TheOpen.{Lanes-F}
use Rattle.vx_array.specs.declared.stretch.Stretch.{Stretch}
use Rattle.vx_array.specs.declared.validity.Validity.{Validity}

abbrev pub together : List ℕ → ℕ
together [] = 0
together (n ∷ ns) = n + together ns

abbrev pub count_step : Lanes-F ℕ → ℕ
count_step (Lanes-F.Structs fs s v) = together fs.value.items + 1
count_step _ = 1

abbrev pub lanes_count : Lanes → ℕ
lanes_count = fold-Lanes ℕ count_step

abbrev pub counts : List Lanes → ℕ
counts ls = together (map lanes_count ls)

pub count-Structs : (fs : Arc (Vec Lanes Global) Global) (s : Stretch) (v : Validity) → lanes_count (Kind.Structs fs s v) ≡ counts fs.value.items + 1
count-Structs fs s v = search (rules, Kind.the_lemmas)

pub no_more : (ls : List Lanes) (i : ℕ) (l : Lanes) → i < length ls → l ≡ get_or ls i l → lanes_count l ≤ counts ls
no_more [] i l h at = absurd (omega arith)
no_more (m ∷ ls) zero l h at = omega (arith, ap lanes_count at)
no_more (m ∷ ls) (suc i) l h at = omega (arith, no_more ls i l (omega arith) at)
