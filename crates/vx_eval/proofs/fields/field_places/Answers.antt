use Rattle.std.proofs.Common.{arith, ap, sym, ◌∙◌, ◌∷◌, [], map, ℕ}
use Rattle.std.proofs.lemmas.List.{map-append}
use Rattle.vx_value.specs.Fields.{data_of, field_value, first_unknown}
use Rattle.vx_value.specs.Types.{Name}
use Rattle.vx_value.specs.Views.{fields_of}
use Rattle.vx_eval.specs.Columns.{datum_at}
use Rattle.vx_eval.proofs.Structs.{known_at, projected_at, mapped_more}
use Rattle.std.proofs.lemmas.List.{take_all}
use Rattle.vx_eval.proofs.fields.field_places.Goals as goal

pub field_place-requires : goal.field_place-requires
field_place-requires c =
    known_at c.as_slice-names.result.now (fields_of c.args.fields.now) c.loop-i.i c.index-names-i.result (ap (λ names. first_unknown names (fields_of c.args.fields.now)) c.as_slice-names.ensures ∙ c.requires) c.loop-i-test.true c.index-names-i.is

pub loop-i-preserved : goal.loop-i-preserved
loop-i-preserved c = λ vs.
    let f = λ (a : Name). field_value a (fields_of c.args.fields.now) vs in
    let at = λ (k : ℕ). datum_at k vs in
    mapped_more f c.as_slice-names.result.now (map at c.loop-i.places.items) (map at c.push.new.self.items) c.loop-i.i c.index-names-i.result (at c.field_place.result) (c.loop-i.invariant vs)
    (ap (map at) c.in_ok-push.ensures.items ∙ map-append at c.loop-i.places.items (c.field_place.result ∷ [])) c.loop-i-test.true
    (sym (c.field_place.ensures vs) ∙ ap f c.index-names-i.is)

pub returns-clause-places : goal.returns-clause-places
returns-clause-places c = λ vs.
    let f = λ (a : Name). field_value a (fields_of c.args.fields.now) vs in
    projected_at c.args.names.now (fields_of c.args.fields.now) vs
    ∙ ap data_of (sym (c.loop-i.invariant vs ∙ ap (map f) (take_all c.loop-i.i c.as_slice-names.result.now (omega arith) ∙ c.as_slice-names.ensures)))
