use Rattle.std.proofs.Common.{◌∙◌}
use Rattle.vx_value.specs.Paths.{path_of}
use Rattle.vx_value.proofs.PathSets.{parts_alike, found-member}
use Rattle.vx_value.proofs.field_path_set.FieldPathSet.has.Goals as goal

pub returns : goal.returns
returns c =
    rw (← c.self.view_is)
    (c.contains_key.ensures ∙ found-member (λ parts. path_of parts.items) (path_of c.args.parts.now) _ (λ parts. parts_alike c.args.parts.now parts.items) c.self.inside.paths.entries c.self.invariant)
