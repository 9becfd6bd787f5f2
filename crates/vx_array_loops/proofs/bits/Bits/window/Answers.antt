use Rattle.std.proofs.Common.{◌+◌, ap, ◌∙◌, arith, length}
use Rattle.vx_array_loops.specs.WordBits.{bit}
use Rattle.vx_array_loops.proofs.RowBits.{seen, length-first_bits}
use Rattle.vx_array_loops.proofs.bits.Bits.window.Goals as goal

pub returns : goal.returns
returns c = λ i few lt.
    let n = c.self.inside.len in
    let words = c.self.inside.words.items in
    let long = length-first_bits n words in
    c.window_of.ensures i few ∙ ap (λ ws. bit ws (c.args.from + i)) c.as_slice.ensures.value ∙ seen n words c.args.self.now c.self.view_is (c.args.from + i) (omega (arith, ap length c.self.view_is, long))
