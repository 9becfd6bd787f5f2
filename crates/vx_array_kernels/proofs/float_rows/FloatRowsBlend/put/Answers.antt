use Rattle.std.proofs.Common.{◌≡◌, ◌∙◌, ap, sym, map, length, refl, true, rules}
use Rattle.std.proofs.lemmas.List.{length-map}
use Rattle.vx_array.specs.Rows.{lanes_rows}
use Rattle.vx_array_build.specs.FloatBits.{float_row}
use Rattle.vx_array_kernels.specs.Choices.{blended}
use Rattle.vx_array_kernels.proofs.Chosen.{ok_all}
use Rattle.vx_array_kernels.proofs.Keyed.{map-blended}
use Rattle.vx_array_kernels.proofs.float_rows.FloatRowsBlend.put.Goals as goal

pub put-requires-clause-mask : goal.put-requires-clause-mask
put-requires-clause-mask g c = c.requires.mask ∙ length-map (g.B.Blend.rows c.args.self.now.bits) (float_row g.F.FloatBits.format)

pub put-requires-clause-lanes : goal.put-requires-clause-lanes
put-requires-clause-lanes g c =
    let h = float_row g.F.FloatBits.format in
    let bits = lanes_rows c.in-Some.bits in
    let read : map h bits ≡ lanes_rows c.args.lanes.now = search rules in
    sym (length-map bits h) ∙ ap length read ∙ c.requires.lanes ∙ length-map (g.B.Blend.rows c.args.self.now.bits) h

pub returns-in-Some : goal.returns-in-Some
returns-in-Some g c =
    let h = float_row g.F.FloatBits.format in
    let mask = c.args.mask.now in
    let bits = lanes_rows c.in-Some.bits in
    let old = g.B.Blend.rows c.args.self.now.bits in
    let new = g.B.Blend.rows c.put.new.self in
    let read : map h bits ≡ lanes_rows c.args.lanes.now = search rules in
    ok_all c.put.result (λ done. done ≡ true → new ≡ blended mask bits old) (λ done. done ≡ true → map h new ≡ blended mask (lanes_rows c.args.lanes.now) (map h old))
    (λ done is yes. ap (map h) (is yes) ∙ map-blended h mask bits old refl ∙ ap (λ l. blended mask l (map h old)) read) c.put.ensures
