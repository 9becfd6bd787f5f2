use Rattle.std.proofs.Common.{length, subst, sym, Ok}
use Rattle.vx_value.specs.Columns.{batch}
use Rattle.vx_value.specs.Fits.{IsBatch}
use Rattle.vx_value.specs.Views.{type_of}
use Rattle.vx_dtype.specs.Returns.{ReturnsOrOom}
use Rattle.vx_eval.proofs.Branches.{merges_fit}
use Rattle.vx_eval.proofs.merges.merge_compact.Goals as goal

pub into_column-requires : goal.into_column-requires
into_column-requires c =
    subst (IsBatch (type_of c.args.dtype.now)) (sym c.in_ok-merge.ensures.rows)
    (merges_fit (type_of c.args.dtype.now) (length c.args.rest.now) c.args.branches.now c.args.otherwise.now.rows c.requires.columns c.requires.last c.requires.fit c.requires.last_fit)

pub returns : goal.returns
returns c = subst (λ rows. ReturnsOrOom (λ c. c) c.into_column.result (Ok (batch (type_of c.args.dtype.now) rows))) c.in_ok-merge.ensures.rows c.into_column.ensures
