use Rattle.std.proofs.Common.{◌≡◌, sym, subst, ap, ◌∙◌, ℕ, List, Option, Some, None}
use Rattle.std.specs.Prelude.{position}
use Rattle.vx_value.specs.Paths.{Path, equal_path}
use Rattle.vx_prune_tree.specs.declared.field_stats.FieldStats.{FieldStats}
use Rattle.vx_prune_tree.specs.Stats.{Facts, Describes, facts_at}
use Rattle.vx_prune_tree.specs.Views.{stats_facts}
use Rattle.vx_prune_tree.proofs.StatisticsBounding.{put-describes}
use Rattle.vx_prune_tree.proofs.Entries.{pushed, set_at, facts_at-put}
use Rattle.vx_prune_tree.proofs.chunk_stats.ChunkStats.insert.Goals as goal
use Rattle.vx_prune_tree.proofs.chunk_stats.ChunkStats.insert.Goals.{in-Some, in-None+in_ok-push-in-None}

pub returns-clause-inserted : goal.returns-clause-inserted
returns-clause-inserted c =
    let path = c.args.path in
    let es = c.self.inside.fields.items in
    let find : List (Path × FieldStats) → Option ℕ = position (λ e. equal_path path e.0) in
    rw (← c.self.view_is) (elim c.match-place_of.branch [
      | in-Some w ↦
          let some : Some w.in-Some.place ≡ find es = w.in-Some.ensures ∙ ap find c.as_slice.ensures.value in
          w.self-is ∙ set_at c.self.inside.rows es w.in-Some.place path w.index_mut.result.now c.args.stats some w.index_mut.ensures.value
      | in-None+in_ok-push-in-None w ↦
          let none : None ≡ find es = w.in-None.ensures ∙ ap find c.as_slice.ensures.value in
          w.self-is ∙ pushed c.self.inside.rows es w.push.new.self.items path c.args.stats none w.in_ok-push-in-None.ensures.items
    ])

pub returns-clause-known : goal.returns-clause-known
returns-clause-known c =
    ap (λ (f : Facts). facts_at f.fields c.args.path) (returns-clause-inserted c) ∙ facts_at-put c.args.self.now.fields c.args.path (stats_facts c.args.stats)

pub returns-clause-describes : goal.returns-clause-describes
returns-clause-describes c = λ t rows h new.
    subst (λ (f : Facts). Describes f t rows) (sym (returns-clause-inserted c)) (put-describes c.args.self.now c.args.path (stats_facts c.args.stats) t rows h new)
