-- The lines stand behind the heading.
use Rattle.std.proofs.Common.{◌≡◌, Err, [], subst, sym, ◌∙◌, rules}
use Rattle.std.proofs.lemmas.List.{append-nil}
use Rattle.std.specs.Io.KnownBytes.{Appends}
use Rattle.vx_tree.specs.Trees.{unbound}
use Rattle.vx_tree.specs.Views.{bound_of}
use Rattle.vx_records.specs.Outcomes.{Breaks}
use Rattle.vx_records.proofs.Going.{reads_none}
use Rattle.vx_records.proofs.Portioned.{ends_behind, filtered_none, filtered_on, filtered_stops, stops_behind}
use Rattle.vx_records.proofs.Stopping.{err_map, ok_map, on_failed, stops_broken}
use Rattle.vx_records.proofs.filtered.filter_records.Goals as goal

pub returns-in_err-write_text-clause-stopped : goal.returns-in_err-write_text-clause-stopped
returns-in_err-write_text-clause-stopped g c =
    let held = g.W.Write.contents in
    let (is, broke) = c.in_err-write_text.ensures.part in
    let failed : c.from_residual.result ≡ Err c.in_err-write_text.field-0.0 = search rules in
    on_failed _ c.in_err-write_text.field-0.0 _ failed (stops_broken g.R.RecordReader.leaves _ c.args.records.now c.args.records.now _ [] _ _ (reads_none (g.R.RecordReader.leaves c.args.records.now))
    (subst (Breaks (held c.args.out.now) (held c.write_text.new.out)) (c.heading.ensures ∙ sym (append-nil (g.R.RecordReader.head c.args.records.now))) broke) is)

pub returns-clause-kept : goal.returns-clause-kept
returns-clause-kept g c =
    let held = g.W.Write.contents in
    let first = subst (Appends (held c.args.out.now) (held c.write_text.new.out)) c.heading.ensures c.in_ok-write_text.ensures.whole in
    ok_map c.in_portions.result _ _ (λ done ends. ends_behind g.R.RecordReader.leaves c.args.limit c.args.records.now _ _ _ _ _ (unbound (bound_of c.args.tree.now)) _ first ends) c.in_portions.ensures.written

pub returns-clause-stopped : goal.returns-clause-stopped
returns-clause-stopped g c =
    let held = g.W.Write.contents in
    let first = subst (Appends (held c.args.out.now) (held c.write_text.new.out)) c.heading.ensures c.in_ok-write_text.ensures.whole in
    err_map c.in_portions.result _ _ (λ e stops. stops_behind g.R.RecordReader.leaves (bound_of c.args.tree.now) _ c.args.records.now _ _ _ _ e first stops) c.in_portions.ensures.stopped

pub in_portions-requires-clause-none : goal.in_portions-requires-clause-none
in_portions-requires-clause-none g c = λ a. filtered_none (unbound (bound_of c.args.tree.now)) (g.R.RecordReader.scope c.args.records.now) (g.W.Write.contents a)

pub in_portions-requires-clause-on : goal.in_portions-requires-clause-on
in_portions-requires-clause-on g c = λ a b d xs ys. filtered_on (unbound (bound_of c.args.tree.now)) _ (g.W.Write.contents a) (g.W.Write.contents b) (g.W.Write.contents d) xs ys

pub in_portions-requires-clause-later : goal.in_portions-requires-clause-later
in_portions-requires-clause-later g c = λ start mid a b d e xs. filtered_stops g.R.RecordReader.leaves (bound_of c.args.tree.now) _ start mid (g.W.Write.contents a) (g.W.Write.contents b) (g.W.Write.contents d) e xs
