use Rattle.std.proofs.Common.{◌+◌, ◌∙◌, ◌∷◌, ◌++◌, [], ap, arith, sym, take}
use Rattle.std.proofs.lemmas.List.{take_more}
use Rattle.vx_data_buffers.proofs.NumberBytes.{spelled_more}
use Rattle.vx_data_buffers.proofs.spelled.spell_all.Goals as goal

pub loop-i-preserved : goal.loop-i-preserved
loop-i-preserved g c =
    let numbers = c.args.numbers.now in
    let i = c.loop-i.i in
    let x = c.index-numbers-i.result in
    spelled_more g.T.Number.number g.T.Native.kind c.loop-i.bytes.items c.spell.new.bytes.items (take i numbers) (take (i + 1) numbers) x c.loop-i.invariant c.in_ok-spell.ensures
    (take_more numbers i x (omega arith) ∙ ap (λ y. take i numbers ++ y ∷ []) (sym c.index-numbers-i.is))
