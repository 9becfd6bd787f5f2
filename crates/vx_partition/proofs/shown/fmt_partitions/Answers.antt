use Rattle.std.proofs.Common.{◌≡◌, ◌<◌, [], ◌++◌, codes, get_or, drop, length, refl, sym, ap, ◌∙◌, append-nil, rules, arith}
use Rattle.std.proofs.lemmas.List.{drop_all}
use Rattle.std.specs.Fmt.{HasWritten}
use Rattle.std.proofs.Output.{has_written_append, has_written_of_eq}
use Rattle.vx_dtype.proofs.Commas.{after_commas, after_commas-turn, with_commas-first}
use Rattle.vx_fn.specs.Texts.{with_commas, named_texts}
use Rattle.vx_partition.specs.Partitioned.{texts_of}
use Rattle.vx_partition.proofs.Showing.{count_named, nothing_named}
use Rattle.vx_partition.proofs.shown.fmt_partitions.Goals as goal

pub returns-then-count-eq0 : goal.returns-then-count-eq0
returns-then-count-eq0 g c plain ok =
    let none : HasWritten g.W.Write.write_str_gives c.args.f.now [] c.args.f.now = record { wrote = record { parts = []; calls = refl; whole = refl }; plain = plain } in
    has_written_of_eq _ _ _ _ _ (sym (nothing_named c.args.names.now c.args.partitions.now (sym c.min-count.ensures ∙ c.if-count-eq0.true))) none

pub loop-index-init : goal.loop-index-init
loop-index-init g c = λ plain. ([], record { wrote = record { parts = []; calls = refl; whole = refl }; plain = plain }, refl)

pub loop-index-preserved : goal.loop-index-preserved
loop-index-preserved g c = λ plain.
    let l = c.loop-index in
    let all = named_texts c.args.names.now (texts_of c.args.partitions.now) in
    let (done, wrote, left) = l.invariant plain in
    let one = c.write_str.ensures.writes wrote.plain (search rules) in
    let two = c.fmt_partition-in-loop-index.ensures one.plain (search rules) in (
      (done ++ codes ", ") ++ get_or all l.index [],
      has_written_append _ _ _ _ _ _ (has_written_append _ _ _ _ _ _ wrote one) two,
      after_commas-turn done all l.index (omega (arith, count_named c.args.names.now c.args.partitions.now)) ∙ left,
    )

pub returns : goal.returns
returns g c plain ok =
    let l = c.loop-index in
    let all = named_texts c.args.names.now (texts_of c.args.partitions.now) in
    let many = count_named c.args.names.now c.args.partitions.now in
    let given : 0 < length all = omega (arith, many) in
    let first = c.fmt_partition.ensures plain (search rules) in
    let (done, wrote, left) = l.invariant first.plain in
    let none = ap after_commas (drop_all l.index all (omega (arith, many))) in
    let rest : done ≡ after_commas (drop 1 all) = sym (append-nil done) ∙ ap (λ x. done ++ x) (sym none) ∙ left in
    let whole : get_or all 0 [] ++ done ≡ with_commas all = ap (λ x. get_or all 0 [] ++ x) rest ∙ with_commas-first all given in
    has_written_of_eq _ _ _ _ _ whole (has_written_append _ _ _ _ _ _ first wrote)
