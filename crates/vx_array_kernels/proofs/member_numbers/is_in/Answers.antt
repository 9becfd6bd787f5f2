use Rattle.vx_array_kernels.proofs.member_numbers.is_in.Goals as goal

pub returns : goal.returns
returns g c = (c.code_at.result, c.code_at.ensures, c.has.ensures)
