use Rattle.std.proofs.Common.{arith, ap, sym, ◌∙◌, ◌∷◌, [], None, ◌≡◌, map}
use Rattle.std.proofs.lemmas.List.{map_more, map-append}
use Rattle.std.proofs.lemmas.List.Elements.{All-more}
use Rattle.vx_value.specs.Columns.{Batch, first_misfit}
use Rattle.vx_value.specs.Views.{type_of}
use Rattle.vx_example_field_columns.proofs.types_in.Goals as goal

pub loop-column-preserved : goal.loop-column-preserved
loop-column-preserved c =
    let columns = c.args.columns.now in
    let column = c.column-item.result in
    let same : type_of c.in_ok-clone.field-0 ≡ column.type = c.in_ok-clone.ensures.cases ∙ c.dtype.ensures in record {
      typed = ap (map type_of) c.in_ok-push.ensures.items ∙ map-append type_of c.loop-column.types.items (c.in_ok-clone.field-0 ∷ [])
          ∙ rw (c.loop-column.invariant.typed, same, ap (λ (x : Batch). x.type) c.column-item.is) (sym (map_more (λ (x : Batch). x.type) columns c.loop-column.column-index column (omega arith)));
      fit = All-more (λ (x : Batch). first_misfit x.type x.rows ≡ None) columns c.loop-column.column-index column (omega arith) c.loop-column.invariant.fit (rw (← c.column-item.is) c.lanes.ensures.fit);
    }
