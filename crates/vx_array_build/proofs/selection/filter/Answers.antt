use Rattle.std.proofs.Common.{◌∙◌, length, subst, sym}
use Rattle.vx_array_build.specs.Taken.{AreWithin}
use Rattle.vx_array_build.proofs.Taking.{rows_below}
use Rattle.vx_array_build.proofs.selection.filter.Goals as goal

pub take-requires : goal.take-requires
take-requires c =
    let many = length c.args.array.now.rows in
    subst (λ l. AreWithin l many) (sym (c.as_slice.ensures.value ∙ c.in_ok-indices.ensures)) (rows_below c.args.mask.now many (sym c.requires))
