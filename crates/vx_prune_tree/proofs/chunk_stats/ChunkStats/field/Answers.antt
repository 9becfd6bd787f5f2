use Rattle.std.proofs.Common.{◌≡◌, sym, ap, ◌∙◌, ℕ, List, Option, Some, None}
use Rattle.std.specs.Prelude.{position}
use Rattle.vx_value.specs.Paths.{Path, equal_path}
use Rattle.vx_prune_tree.specs.declared.field_stats.FieldStats.{FieldStats}
use Rattle.vx_prune_tree.proofs.Entries.{entry_at-none, entry_at-some}
use Rattle.vx_prune_tree.proofs.chunk_stats.ChunkStats.field.Goals as goal

pub returns-in_err-place : goal.returns-in_err-place
returns-in_err-place c =
    let find : List (Path × FieldStats) → Option ℕ = position (λ e. equal_path c.args.path.now e.0) in
    let none : None ≡ find c.self.inside.fields.items = c.in_err-place.ensures ∙ ap find c.as_slice.ensures.value in
    rw (← c.self.view_is, c.from_residual.ensures) (sym (entry_at-none c.args.path.now c.self.inside.fields.items none))

pub returns : goal.returns
returns c =
    let find : List (Path × FieldStats) → Option ℕ = position (λ e. equal_path c.args.path.now e.0) in
    let some : Some c.in_ok-place.place ≡ find c.self.inside.fields.items = c.in_ok-place.ensures ∙ ap find c.as_slice.ensures.value in
    rw (← c.self.view_is) (entry_at-some c.args.path.now c.self.inside.fields.items c.in_ok-place.place c.index.result.now some c.index.ensures)
