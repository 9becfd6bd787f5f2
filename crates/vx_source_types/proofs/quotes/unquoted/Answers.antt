use Rattle.std.proofs.Common.{ap, ◌∙◌, arith}
use Rattle.vx_source_types.proofs.Quoting.{quote_in_text, quote_seen, byte_in_text}
use Rattle.vx_source_types.proofs.quotes.unquoted.Goals as goal
use Rattle.vx_source_types.proofs.quotes.unquoted.Goals.{then-b-quote, then-seen+in_ok-push, else-seen, else-b-quote+else-seen-2+in_ok-push-2}

pub loop-at-preserved : goal.loop-at-preserved
loop-at-preserved c =
    let bs = c.args.bytes.now in
    elim c.if-b-quote.branch [
      | then-b-quote w ↦
          elim w.if-seen.branch [
            | then-seen+in_ok-push v ↦
                (omega arith, quote_in_text c.args.quote bs c.loop-at.at c.loop-at.made.items c.if-b-quote.made.items c.loop-at.seen c.if-b-quote.seen _ (omega arith) w.if-b-quote.true v.if-seen.true w.seen-is (ap (λ m. m.items) (w.made-is ∙ v.made-is) ∙ v.in_ok-push.ensures.items) c.loop-at.invariant.1)
            | else-seen v ↦
                (omega arith, quote_seen c.args.quote bs c.loop-at.at c.loop-at.made.items c.if-b-quote.made.items c.loop-at.seen c.if-b-quote.seen _ (omega arith) w.if-b-quote.true v.if-seen.false w.seen-is (ap (λ m. m.items) (w.made-is ∙ v.made-is)) c.loop-at.invariant.1)
          ]
      | else-b-quote+else-seen-2+in_ok-push-2 w ↦
          (omega arith, byte_in_text c.args.quote bs c.loop-at.at c.loop-at.made.items c.if-b-quote.made.items c.loop-at.seen c.if-b-quote.seen _ (omega arith) w.if-b-quote.false w.if-seen-2.false w.seen-is (ap (λ m. m.items) w.made-is ∙ w.in_ok-push-2.ensures.items) c.loop-at.invariant.1)
    ]
