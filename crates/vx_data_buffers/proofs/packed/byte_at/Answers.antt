use Rattle.std.proofs.Common.{ℕ, suc, ◌+◌, ◌*◌, Bool, false, get_or, refl}
use Rattle.vx_data_buffers.proofs.ByteBits.{packed_more}
use Rattle.vx_data_buffers.proofs.packed.byte_at.Goals as goal

pub returns : goal.returns
returns c =
    let g : ℕ → Bool = λ j. get_or c.args.bits.now (c.args.k * 8 + j) false in
    packed_more g 7 _ _ _ c.has-8.ensures
    (packed_more (λ j. g (suc j)) 6 _ _ _ c.has-7.ensures
    (packed_more (λ j. g (suc (suc j))) 5 _ _ _ c.has-6.ensures
    (packed_more (λ j. g (suc (suc (suc j)))) 4 _ _ _ c.has-5.ensures
    (packed_more (λ j. g (suc (suc (suc (suc j))))) 3 _ _ _ c.has-4.ensures
    (packed_more (λ j. g (suc (suc (suc (suc (suc j)))))) 2 _ _ _ c.has-3.ensures
    (packed_more (λ j. g (suc (suc (suc (suc (suc (suc j))))))) 1 _ _ _ c.has-2.ensures
    (packed_more (λ j. g (suc (suc (suc (suc (suc (suc (suc j)))))))) 0 _ _ _ c.has.ensures refl
    c.joined-byte.ensures) c.joined-byte-2.ensures) c.joined-byte-3.ensures) c.joined-byte-4.ensures) c.joined-byte-5.ensures) c.joined-byte-6.ensures) c.joined-byte-7.ensures) c.joined.ensures
