use Rattle.std.proofs.Common.{◌∙◌, sym, subst}
use Rattle.vx_value.specs.Views.{type_of}
use Rattle.vx_source_parser.specs.Placed.{tree_in}
use Rattle.vx_source_over.specs.Reading.{IsWritten, ReadsOver, RefusesOver}
use Rattle.vx_source_over.proofs.Texts.{typed_alone, same_text, settles, unique, completes, if_reads, if_refuses}
use Rattle.vx_source_over.proofs.written.over.Goals as goal

pub returns-then-branch-clause-reads : goal.returns-then-branch-clause-reads
returns-then-branch-clause-reads c = λ limit text w.
    let alone = subst (IsWritten limit text) c.in-Alone.is w in
    typed_alone limit text (type_of c.args.scope.now) (tree_in c.in-Alone.placed) alone.0 (sym c.in_ok-has_type-in-Alone.ensures.answer ∙ c.if-branch.true)

pub returns-then-branch-clause-complete : goal.returns-then-branch-clause-complete
returns-then-branch-clause-complete c = λ limit text e w h. unique limit text (type_of c.args.scope.now) (tree_in c.in-Alone.placed) e (returns-then-branch-clause-reads c limit text w) h

pub returns-else-branch-clause-reads : goal.returns-else-branch-clause-reads
returns-else-branch-clause-reads c = λ limit text w.
    let s = type_of c.args.scope.now in
    let alone = subst (IsWritten limit text) c.in-Alone.is w in
    let bare = sym c.in_ok-has_type-in-Alone.ensures.answer ∙ c.if-branch.false in
    if_reads (λ p. ReadsOver limit text s (tree_in p)) (RefusesOver limit text s) c.open_over.result
    (same_text limit c.in-Alone.limit text c.in-Alone.text.now s (tree_in c.in-Alone.placed) c.open_over.result alone.0 alone.1 alone.2 bare c.open_over.ensures)

pub returns-else-branch-clause-refuses : goal.returns-else-branch-clause-refuses
returns-else-branch-clause-refuses c = λ limit text w.
    let s = type_of c.args.scope.now in
    let alone = subst (IsWritten limit text) c.in-Alone.is w in
    let bare = sym c.in_ok-has_type-in-Alone.ensures.answer ∙ c.if-branch.false in
    if_refuses (λ p. ReadsOver limit text s (tree_in p)) (RefusesOver limit text s) c.open_over.result
    (same_text limit c.in-Alone.limit text c.in-Alone.text.now s (tree_in c.in-Alone.placed) c.open_over.result alone.0 alone.1 alone.2 bare c.open_over.ensures)

pub returns-else-branch-clause-complete : goal.returns-else-branch-clause-complete
returns-else-branch-clause-complete c = λ limit text e w h.
    let s = type_of c.args.scope.now in
    let alone = subst (IsWritten limit text) c.in-Alone.is w in
    let bare = sym c.in_ok-has_type-in-Alone.ensures.answer ∙ c.if-branch.false in
    completes limit text s tree_in c.open_over.result e
    (same_text limit c.in-Alone.limit text c.in-Alone.text.now s (tree_in c.in-Alone.placed) c.open_over.result alone.0 alone.1 alone.2 bare c.open_over.ensures) h

pub returns-in-Open-clause-reads : goal.returns-in-Open-clause-reads
returns-in-Open-clause-reads c = λ limit text w.
    let s = type_of c.args.scope.now in
    let both = subst (IsWritten limit text) c.in-Open.is w in
    if_reads (λ p. ReadsOver limit text s (tree_in p)) (RefusesOver limit text s) c.settle_readings.result
    (settles limit text s tree_in c.settle_readings.result (λ e k. absurd (both.0 e k)) both.1 c.settle_readings.ensures)

pub returns-in-Open-clause-complete : goal.returns-in-Open-clause-complete
returns-in-Open-clause-complete c = λ limit text e w h.
    let s = type_of c.args.scope.now in
    let both = subst (IsWritten limit text) c.in-Open.is w in
    completes limit text s tree_in c.settle_readings.result e
    (settles limit text s tree_in c.settle_readings.result (λ e k. absurd (both.0 e k)) both.1 c.settle_readings.ensures) h
