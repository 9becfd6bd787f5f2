-- What lanes of each kind stand for.
use Rattle.std.proofs.Common.{◌≡◌, ℕ, Bool, List, map, rules, Vec}
use Rattle.std.proofs.Math.ListN.{replicate}
use Rattle.std.specs.declared.alloc.Global.{Global}
use Rattle.std.specs.declared.sync.Arc.{Arc}
use Rattle.vx_value.specs.declared.value.Value.{Value}
use Rattle.vx_value.specs.Types.{bool, int, float, bytes}
use Rattle.vx_value.specs.Views.{value_of}
use Rattle.vx_array.specs.declared.lanes.Lanes as Kind
use Rattle.vx_array.specs.declared.lanes.Lanes.{Lanes}
use Rattle.vx_array.specs.declared.floats.Floats.{Floats}
use Rattle.vx_array.specs.declared.numbers.Numbers.{Numbers}
use Rattle.vx_array.specs.declared.spans.Spans.{Spans}
use Rattle.vx_array.specs.declared.stretch.Stretch.{Stretch}
use Rattle.vx_array.specs.declared.validity.Validity.{Validity}
use Rattle.vx_array.specs.Kinds.{floats_in, numbers_in, spans_in, text_row}
use Rattle.vx_array.specs.Rows.{lanes_rows, lanes_each, structs_from}
use Rattle.vx_array.specs.Shown.{shown}

pub rows-Same : (x : Arc Value Global) (n : ℕ) → lanes_rows (Kind.Same x n) ≡ replicate n (value_of x.value)
rows-Same x n = search (rules, Kind.the_lemmas)

pub rows-Values : (xs : List Value) → lanes_rows (Kind.Values xs) ≡ map value_of xs
rows-Values xs = search (rules, Kind.the_lemmas)

pub rows-Bools : (xs : List Bool) (v : Validity) → lanes_rows (Kind.Bools xs v) ≡ shown v (map bool xs)
rows-Bools xs v = search (rules, Kind.the_lemmas)

pub rows-Numbers : (xs : Numbers) (v : Validity) → lanes_rows (Kind.Numbers xs v) ≡ shown v (map int (numbers_in xs))
rows-Numbers xs v = search (rules, Kind.the_lemmas)

pub rows-Floats : (xs : Floats) (v : Validity) → lanes_rows (Kind.Floats xs v) ≡ shown v (map float (floats_in xs))
rows-Floats xs v = search (rules, Kind.the_lemmas)

pub rows-Texts : (xs : Spans) (v : Validity) → lanes_rows (Kind.Texts xs v) ≡ shown v (map text_row (spans_in xs))
rows-Texts xs v = search (rules, Kind.the_lemmas)

pub rows-Octets : (xs : Spans) (v : Validity) → lanes_rows (Kind.Octets xs v) ≡ shown v (map bytes (spans_in xs))
rows-Octets xs v = search (rules, Kind.the_lemmas)

pub rows-Structs : (fs : Arc (Vec Lanes Global) Global) (s : Stretch) (v : Validity) → lanes_rows (Kind.Structs fs s v) ≡ shown v (structs_from s.from s.len (lanes_each fs.value.items))
rows-Structs fs s v = search (rules, Kind.the_lemmas)
