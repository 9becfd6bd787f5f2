use Rattle.vx_dtype.proofs.FieldsAt.{is_among_place}
use Rattle.vx_dtype.proofs.names.FieldNames.contains.Goals as goal

pub returns : goal.returns
returns c = rw (c.is_some.ensures, c.find.ensures) (is_among_place c.args.name.now c.args.self.now)
