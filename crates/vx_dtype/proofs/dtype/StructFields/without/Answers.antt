use Rattle.std.proofs.Common.{◌≡◌, ap, ◌∙◌, subst, None, rules}
use Rattle.vx_dtype.specs.Fields.{field_names, first_unknown, names_without}
use Rattle.vx_dtype.specs.Returns.{ReturnsOrOom, projected}
use Rattle.vx_dtype.specs.Views.{fields_of}
use Rattle.vx_dtype.proofs.Built.{projected_kept}
use Rattle.vx_dtype.proofs.dtype.StructFields.without.Goals as goal

pub returns-in_ok-new-in-None-clause-fields : goal.returns-in_ok-new-in-None-clause-fields
returns-in_ok-new-in-None-clause-fields c =
    let none : None ≡ first_unknown c.args.names.now (fields_of c.args.self.now) = search rules in
    let kept : c.in_ok-new-in-None.field-0 ≡ names_without c.args.names.now (field_names (fields_of c.args.self.now)) = search rules in
    let known = projected_kept c.args.names.now (fields_of c.args.self.now) none in
    subst (ReturnsOrOom fields_of c.project.result) (ap (λ names. projected names (fields_of c.args.self.now)) kept ∙ known) c.project.ensures.fields
