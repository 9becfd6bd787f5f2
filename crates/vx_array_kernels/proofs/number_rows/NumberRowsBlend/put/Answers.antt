use Rattle.std.proofs.Common.{◌≡◌, ◌∙◌, ℕ, List, ap, sym, map, length, true}
use Rattle.std.proofs.Math.ListN.{replicate}
use Rattle.std.proofs.lemmas.List.{length-replicate}
use Rattle.vx_value.specs.Types.{Datum, int, null}
use Rattle.vx_value.specs.Views.{value_of}
use Rattle.vx_array.specs.Rows.{lanes_rows}
use Rattle.vx_array.specs.Shown.{shown}
use Rattle.vx_array.proofs.Held.{rows-Numbers, rows-Same}
use Rattle.vx_array.proofs.Reading.{value_of-Int, value_of-Null}
use Rattle.vx_array_kernels.specs.Choices.{blended}
use Rattle.vx_array_kernels.proofs.Chosen.{ok_all}
use Rattle.vx_array_kernels.proofs.number_rows.NumberRowsBlend.put.Goals as goal

-- one value in as many rows as there are
same_long : (rows : List Datum) (n m : ℕ) (d : Datum) → rows ≡ replicate n d → length rows ≡ m → rows ≡ replicate m d
same_long rows n m d is long = is ∙ ap (λ k. replicate k d) (sym (length-replicate n d) ∙ ap length (sym is) ∙ long)

pub returns-in-Some : goal.returns-in-Some
returns-in-Some g c =
    let m = c.in-Numbers in
    let new = c.put_part.new.rows in
    let part = map int (map g.T.Number.number c.in-Some.part.now) in
    let there : lanes_rows c.args.lanes.now ≡ shown m.validity part = ap lanes_rows m.is ∙ rows-Numbers m.numbers m.validity ∙ ap (λ ns. shown m.validity (map int ns)) c.in-Some.ensures in
    ok_all c.put_part.result (λ done. new ≡ blended c.args.mask.now (shown m.validity part) c.args.self.now) (λ done. done ≡ true → new ≡ blended c.args.mask.now (lanes_rows c.args.lanes.now) c.args.self.now)
    (λ done is _. is ∙ ap (λ l. blended c.args.mask.now l c.args.self.now) (sym there)) c.put_part.ensures

pub returns-in-Null : goal.returns-in-Null
returns-in-Null g c =
    let m = c.in-Same in
    let new = c.put_nulls.new.rows in
    let n = length c.args.self.now in
    let held : value_of m.value.value ≡ null = ap value_of (sym c.as_ref.ensures ∙ c.in-Null.is) ∙ value_of-Null in
    let there = same_long (lanes_rows c.args.lanes.now) m.field-1 n null (ap lanes_rows m.is ∙ rows-Same m.value m.field-1 ∙ ap (replicate m.field-1) held) c.requires.lanes in
    ok_all c.put_nulls.result (λ done. new ≡ blended c.args.mask.now (replicate n null) c.args.self.now) (λ done. done ≡ true → new ≡ blended c.args.mask.now (lanes_rows c.args.lanes.now) c.args.self.now)
    (λ done is _. is ∙ ap (λ l. blended c.args.mask.now l c.args.self.now) (sym there)) c.put_nulls.ensures

pub returns-in-Int : goal.returns-in-Int
returns-in-Int g c =
    let m = c.in-Same in
    let new = c.put_number.new.rows in
    let n = length c.args.self.now in
    let d = int c.in-Int.number in
    let held : value_of m.value.value ≡ d = ap value_of (sym c.as_ref.ensures ∙ c.in-Int.is) ∙ value_of-Int c.in-Int.number in
    let there = same_long (lanes_rows c.args.lanes.now) m.field-1 n d (ap lanes_rows m.is ∙ rows-Same m.value m.field-1 ∙ ap (replicate m.field-1) held) c.requires.lanes in
    ok_all c.put_number.result (λ done. done ≡ true → new ≡ blended c.args.mask.now (replicate n d) c.args.self.now) (λ done. done ≡ true → new ≡ blended c.args.mask.now (lanes_rows c.args.lanes.now) c.args.self.now)
    (λ done is yes. is yes ∙ ap (λ l. blended c.args.mask.now l c.args.self.now) (sym there)) c.put_number.ensures
