use Rattle.std.proofs.Common.{◌≡◌, ◌∙◌, ap, sym, map, Ok}
use Rattle.std.specs.Prelude.{◌||◌}
use Rattle.vx_value.specs.Columns.{batch, first_misfit}
use Rattle.vx_value.specs.Items.{item_at}
use Rattle.vx_value.specs.Types.{is_nullable, ty, struct, with_nullability}
use Rattle.vx_value.specs.Views.{admits_null, fields_of, type_of}
use Rattle.vx_array.specs.Items.{field_at, field_of, rows_found}
use Rattle.vx_array.specs.Rows.{lanes_rows}
use Rattle.vx_array.proofs.Fielded.{items_are, items_fit, type_of-Struct}
use Rattle.vx_array.proofs.array.Array.field.Goals as goal

pub new-requires : goal.new-requires
new-requires c =
    let s = c.in-Struct in
    let a = c.args.name.now in
    let k = c.in-Some.place in
    let t = type_of c.in-Some.inside.now in
    let u = with_nullability (is_nullable t || admits_null s.nullability) t in
    let rows = c.args.self.now.rows in
    let whole : c.args.self.now.type ≡ ty (struct (fields_of s.fields)) (admits_null s.nullability) = sym c.dtype.ensures ∙ ap type_of s.is ∙ type_of-Struct s.fields s.nullability in
    ap (λ v. first_misfit v (lanes_rows c.in_ok-items.items)) c.in_ok-dtype.ensures ∙ ap (first_misfit u) (c.in_ok-items.ensures ∙ ap (map (item_at k)) c.lanes.ensures.rows)
    ∙ items_fit a (fields_of s.fields) k (admits_null s.nullability) t rows c.in-Some.ensures.place (sym c.in-Some.ensures.field) (ap (λ v. first_misfit v rows) (sym whole) ∙ c.lanes.ensures.fit)

pub returns : goal.returns
returns c =
    let s = c.in-Struct in
    let a = c.args.name.now in
    let fs = fields_of s.fields in
    let n = admits_null s.nullability in
    let k = c.in-Some.place in
    let t = type_of c.in-Some.inside.now in
    let rows = c.args.self.now.rows in
    let whole : c.args.self.now.type ≡ ty (struct fs) n = sym c.dtype.ensures ∙ ap type_of s.is ∙ type_of-Struct s.fields s.nullability in
    ap (λ v. field_of a v rows) whole ∙ ap (λ o. rows_found o a n (map (field_at a fs) rows)) (sym c.in-Some.ensures.field)
    ∙ ap (λ l. Ok (batch (with_nullability (is_nullable t || n) t) l)) (sym (c.in_ok-items.ensures ∙ ap (map (item_at k)) c.lanes.ensures.rows ∙ items_are a fs k rows c.in-Some.ensures.place))
    ∙ ap (λ v. Ok (batch v (lanes_rows c.in_ok-items.items))) (sym c.in_ok-dtype.ensures) ∙ ap Ok (sym c.new.ensures)
