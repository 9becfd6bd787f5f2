-- Each chunk goes on where the one before it ended.
use Rattle.std.proofs.Common.{◌≡◌, ◌<◌, ◌≤◌, ◌+◌, ◌-◌, ◌*◌, Err, List, length, ◌++◌, [], refl, subst, sym, ◌∙◌, arith, rules}
use Rattle.std.proofs.lemmas.List.{append-nil}
use Rattle.std.specs.Io.KnownBytes.{Appends}
use Rattle.std.specs.NonZero.{non_zero_usize_get}
use Rattle.vx_tree.specs.Trees.{unbound}
use Rattle.vx_tree.specs.Views.{bound_of}
use Rattle.vx_records.specs.Outcomes.{Breaks, UnlessFaulting}
use Rattle.vx_records.specs.Records.{Record, kept_lines}
use Rattle.vx_records.specs.Tallies.{chunk_tally, tally, tally_of}
use Rattle.vx_records.proofs.Going.{reads_none}
use Rattle.vx_records.proofs.Stopping.{ends_all, goes_on, on_failed, step_few, step_full, stops_broken, stops_on}
use Rattle.vx_records.proofs.Tallying.{full_chunk, more_full, tally_none, tally_on}
use Rattle.vx_records.proofs.Written.{chunk_appends, chunk_breaks}
use Rattle.vx_records.proofs.chunked.filter_chunks.Goals as goal

pub returns-in_err-write_text-clause-stopped : goal.returns-in_err-write_text-clause-stopped
returns-in_err-write_text-clause-stopped g c =
    let held = g.W.Write.contents in
    let e = c.in_err-write_text.field-0.0 in
    let (is, broke) = c.in_err-write_text.ensures.part in
    let failed : c.from_residual.result ≡ Err e = search rules in
    on_failed _ e _ failed (stops_broken g.R.RecordReader.leaves _ c.args.records.now c.args.records.now e [] _ _ (reads_none (g.R.RecordReader.leaves c.args.records.now))
    (λ never. subst (Breaks (held c.args.out.now) (held c.write_text.new.out)) (c.heading.ensures ∙ sym (append-nil (g.R.RecordReader.head c.args.records.now))) broke) is)

pub returns-in_default-clause-stopped : goal.returns-in_default-clause-stopped
returns-in_default-clause-stopped g c =
    let held = g.W.Write.contents in (
      c.args.records.now,
      [],
      reads_none (g.R.RecordReader.leaves c.args.records.now),
      λ never. subst (Appends (held c.args.out.now) (held c.write_text.new.out)) (c.heading.ensures ∙ sym (append-nil (g.R.RecordReader.head c.args.records.now))) c.in_ok-write_text.ensures.whole,
    )

pub returns-in_err-done-clause-stopped : goal.returns-in_err-done-clause-stopped
returns-in_err-done-clause-stopped g c =
    let (xs, count, before, wrote, scope, counted, full, within, few) = c.loop-left.invariant in
    let held = g.W.Write.contents in
    let b = bound_of c.args.tree.now in
    let head = g.R.RecordReader.head c.args.records.now in
    let size = non_zero_usize_get c.args.chunking.size in
    let e = c.in_err-done.field-0.0 in
    let less : c.min-count.result ≤ size = search (arith, c.min-count.ensures, c.get.ensures.value) in
    let failed : c.from_residual-in_err-done.result ≡ Err e = search rules in
    on_failed _ e _ failed (stops_on g.R.RecordReader.leaves b c.args.records.now c.loop-left.records e xs
    (UnlessFaulting c.min-count.result b (λ ys. Appends (held c.loop-left.out) (held c.filter_chunk.new.out) (kept_lines (unbound b) (g.R.RecordReader.scope c.loop-left.records) ys)))
    (UnlessFaulting c.min-count.result b (λ ys. Breaks (held c.loop-left.out) (held c.filter_chunk.new.out) (kept_lines (unbound b) (g.R.RecordReader.scope c.loop-left.records) ys)))
    (UnlessFaulting size b (λ zs. Appends (held c.args.out.now) (held c.filter_chunk.new.out) (head ++ kept_lines (unbound b) (g.R.RecordReader.scope c.args.records.now) zs)))
    (UnlessFaulting size b (λ zs. Breaks (held c.args.out.now) (held c.filter_chunk.new.out) (head ++ kept_lines (unbound b) (g.R.RecordReader.scope c.args.records.now) zs)))
    before
    (λ ys w. chunk_appends head size c.min-count.result b _ _ (held c.args.out.now) (held c.loop-left.out) (held c.filter_chunk.new.out) xs ys less scope wrote w)
    (λ ys w. chunk_breaks head size c.min-count.result b _ _ (held c.args.out.now) (held c.loop-left.out) (held c.filter_chunk.new.out) xs ys less scope wrote w) c.in_err-done.ensures.stopped)

pub loop-left-init : goal.loop-left-init
loop-left-init g c =
    let held = g.W.Write.contents in
    let some : 0 < non_zero_usize_get c.args.chunking.size = search (arith, c.args.chunking.size.ok) in (
      [],
      omega arith,
      reads_none (g.R.RecordReader.leaves c.args.records.now),
      λ never. subst (Appends (held c.args.out.now) (held c.write_text.new.out)) (c.heading.ensures ∙ sym (append-nil (g.R.RecordReader.head c.args.records.now))) c.in_ok-write_text.ensures.whole,
      refl,
      tally_none (non_zero_usize_get c.args.chunking.size) (bound_of c.args.tree.now) (g.R.RecordReader.scope c.args.records.now) some,
      λ more. omega arith,
      omega arith,
      omega arith,
    )

pub returns-then-done-clause-kept : goal.returns-then-done-clause-kept
returns-then-done-clause-kept g c =
    let (xs, count, before, wrote, scope, counted, full, within, few) = c.loop-left.invariant in
    let held = g.W.Write.contents in
    let b = bound_of c.args.tree.now in
    let s = g.R.RecordReader.scope c.args.records.now in
    let t = g.R.RecordReader.scope c.loop-left.records in
    let head = g.R.RecordReader.head c.args.records.now in
    let size = non_zero_usize_get c.args.chunking.size in
    let n = c.min-count.result in
    let one = c.in_ok-done.done.tally in
    let less : n ≤ size = search (arith, c.min-count.ensures, c.get.ensures.value) in
    let most : n ≤ c.loop-left.left = search (arith, c.min-count.ensures) in
    let Lines = UnlessFaulting n b (λ ys. Appends (held c.loop-left.out) (held c.filter_chunk.new.out) (kept_lines (unbound b) t ys)) in
    let Wrote : List Record → Type 0 = λ ys. (one ≡ chunk_tally b t ys) × Lines ys in
    let Both : List Record → Type 0 = λ zs. (tally (c.loop-left.tally.chunks + one.chunks) (c.loop-left.tally.evaluated + one.evaluated) ≡ tally_of size b s zs)
    × UnlessFaulting size b (λ zs. Appends (held c.args.out.now) (held c.filter_chunk.new.out) (head ++ kept_lines (unbound b) s zs)) zs in
    ends_all g.R.RecordReader.leaves c.args.chunking.limit c.loop-left.left n c.args.records.now c.loop-left.records _ c.in_ok-done.done.last xs (λ ys. (length ys ≤ n) × Wrote ys) Both
    count most before
    (λ ys w. (
      tally_on size b s t xs ys c.loop-left.tally one counted (full c.loop-left-test.true) scope w.1.0 (search (arith, w.0, less)),
      chunk_appends head size n b s t (held c.args.out.now) (held c.loop-left.out) (held c.filter_chunk.new.out) xs ys less scope wrote w.1.1,
    ))
    c.if-done.true (step_few g.R.RecordReader.leaves n c.loop-left.records _ c.in_ok-done.done.last Wrote c.in_ok-done.ensures.step)

pub loop-left-preserved : goal.loop-left-preserved
loop-left-preserved g c =
    let (xs, count, before, wrote, scope, counted, full, within, few) = c.loop-left.invariant in
    let held = g.W.Write.contents in
    let b = bound_of c.args.tree.now in
    let s = g.R.RecordReader.scope c.args.records.now in
    let t = g.R.RecordReader.scope c.loop-left.records in
    let head = g.R.RecordReader.head c.args.records.now in
    let size = non_zero_usize_get c.args.chunking.size in
    let n = c.min-count.result in
    let left = c.loop-left.left in
    let one = c.in_ok-done.done.tally in
    let less : n ≤ size = search (arith, c.min-count.ensures, c.get.ensures.value) in
    let most : n ≤ left = search (arith, c.min-count.ensures) in
    let some : 0 < n = search (arith, c.min-count.ensures, c.get.ensures.nonzero, c.loop-left-test.true) in
    let whole : 0 < left - n → n ≡ size = λ more. search (arith, c.min-count.ensures, c.get.ensures.value, more) in
    let Lines = UnlessFaulting n b (λ ys. Appends (held c.loop-left.out) (held c.filter_chunk.new.out) (kept_lines (unbound b) t ys)) in
    let Wrote : List Record → Type 0 = λ ys. (one ≡ chunk_tally b t ys) × Lines ys in
    let Both : List Record → Type 0 = λ zs. (tally (c.loop-left.tally.chunks + one.chunks) (c.loop-left.tally.evaluated + one.evaluated) ≡ tally_of size b s zs)
    × (0 < left - n → length zs ≡ (c.loop-left.tally.chunks + one.chunks) * size)
    × UnlessFaulting size b (λ zs. Appends (held c.args.out.now) (held c.filter_chunk.new.out) (head ++ kept_lines (unbound b) s zs)) zs in
    let (zs, sum, reads, kept) = goes_on g.R.RecordReader.leaves c.args.chunking.limit left n c.args.records.now c.loop-left.records _ c.in_ok-done.done.last xs (λ ys. (length ys ≡ n) × Wrote ys) Both
    count most before
    (λ ys w. (
      tally_on size b s t xs ys c.loop-left.tally one counted (full c.loop-left-test.true) scope w.1.0 (search (arith, w.0, less)),
      λ more. more_full size c.loop-left.tally.chunks one.chunks n xs ys (full c.loop-left-test.true) w.0 (whole more) (full_chunk n b t ys one some w.1.0 w.0),
      chunk_appends head size n b s t (held c.args.out.now) (held c.loop-left.out) (held c.filter_chunk.new.out) xs ys less scope wrote w.1.1,
    ))
    c.if-done.false (step_full g.R.RecordReader.leaves n c.loop-left.records _ c.in_ok-done.done.last Wrote c.if-done.false c.in_ok-done.ensures.step) in
    (zs, sum, reads, kept.2, c.filter_chunk.ensures.scope ∙ scope, kept.0, kept.1, omega (arith, within, c.in_ok-done.ensures.within), omega (arith, few, most, some, c.in_ok-done.ensures.one))
