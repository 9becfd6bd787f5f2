use Rattle.std.proofs.Common.{◌≡◌, ◌+◌, List, ℕ, Some, None, drop, sym, ap, ◌∙◌, inr}
use Rattle.vx_dtype.specs.declared.error.VortexError.TheVariants.{NoSuchField}
use Rattle.vx_value.specs.Fields.{field_type, field_value}
use Rattle.vx_value.specs.Paths.{Path, path_of, part_name}
use Rattle.vx_value.specs.Types.{Name, Data}
use Rattle.vx_value.specs.Views.{type_of, fields_of}
use Rattle.vx_prune_tree.specs.Lent.{datum_at, at_places}
use Rattle.vx_projection.specs.Lost.{lost}
use Rattle.vx_prune_tree.specs.Stats.{at_path}
use Rattle.vx_prune_tree.proofs.StatisticsPaths.{path_from, lost-no_struct, lost-missing, lost-field, at_path-field, at_places-append}
use Rattle.vx_prune_tree.proofs.places.places_along.Goals as goal

pub returns-in_default-clause-refused : goal.returns-in_default-clause-refused
returns-in_default-clause-refused c =
    let t = type_of c.loop-part.inside.now in
    let rest = path_of (drop (c.loop-part.part-index + 1) c.args.path.now) in
    let part = path_from c.args.path.now c.loop-part.part-index c.part-item.result c.loop-part-test.true c.part-item.is in
    inr (sym c.loop-part.invariant.leads ∙ ap (λ (p : Path). lost p t) part ∙ lost-no_struct (part_name c.part-item.result) rest t (sym c.in_default.ensures))

pub returns-in-None-clause-refused : goal.returns-in-None-clause-refused
returns-in-None-clause-refused c =
    let t = type_of c.loop-part.inside.now in
    let fs = fields_of c.in-Some.fields.now in
    let a = part_name c.part-item.result in
    let rest = path_of (drop (c.loop-part.part-index + 1) c.args.path.now) in
    let part = path_from c.args.path.now c.loop-part.part-index c.part-item.result c.loop-part-test.true c.part-item.is in
    let missing : field_type a fs ≡ None = ap (λ (b : Name). field_type b fs) (sym c.part_name-name.ensures) ∙ c.in-None.ensures in
    let name : a ≡ c.in_ok-clone-in-None.field-0 = sym (c.in_ok-clone-in-None.ensures.cases ∙ c.part_name-name.ensures) in
    inr (sym c.loop-part.invariant.leads ∙ ap (λ (p : Path). lost p t) part ∙ lost-missing a rest t fs (sym c.in-Some.ensures) missing ∙ ap (λ (b : Name). Some (NoSuchField b)) name)

pub loop-part-preserved : goal.loop-part-preserved
loop-part-preserved c =
    let t = type_of c.loop-part.inside.now in
    let fs = fields_of c.in-Some.fields.now in
    let u = type_of c.in-Some-field_place.field.now in
    let a = part_name c.part-item.result in
    let k = c.in-Some-field_place.place in
    let rest = path_of (drop (c.loop-part.part-index + 1) c.args.path.now) in
    let part = path_from c.args.path.now c.loop-part.part-index c.part-item.result c.loop-part-test.true c.part-item.is in
    let known : field_type a fs ≡ Some u = ap (λ (b : Name). field_type b fs) (sym c.part_name-name.ensures) ∙ c.in-Some-field_place.ensures.0 in
    let at : (vs : Data) → field_value a fs vs ≡ datum_at k vs = λ vs. ap (λ (b : Name). field_value b fs vs) (sym c.part_name-name.ensures) ∙ c.in-Some-field_place.ensures.1 vs in
    record {
      leads = sym (lost-field a rest t fs u (sym c.in-Some.ensures) known) ∙ ap (λ (p : Path). lost p t) (sym part) ∙ c.loop-part.invariant.leads;
      found = λ v.
          let w = at_places c.loop-part.places.items v in
          ap (λ (ps : List ℕ). at_path u rest (at_places ps v)) c.in_ok-push-in-Some-field_place.ensures.items
          ∙ ap (at_path u rest) (at_places-append c.loop-part.places.items k v)
          ∙ sym (at_path-field a rest t fs u k (sym c.in-Some.ensures) known at w)
          ∙ ap (λ (p : Path). at_path t p w) (sym part)
          ∙ c.loop-part.invariant.found v;
    }
