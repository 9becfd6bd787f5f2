use Rattle.std.proofs.Common.{◌≡◌, ◌+◌, ◌++◌, ℕ, Bool, List, Option, get_or, drop, false, true, sym, ap, ◌∙◌, arith, rules}
use Rattle.std.specs.Prelude.{◌==◌}
use Rattle.vx_sql_parser.specs.Patterns as patterns
use Rattle.vx_sql_parser.proofs.PatternsSpelled.{follows, plain, escape, escaped}
use Rattle.vx_sql_parser.proofs.patterns.respelled.Goals as goal
use Rattle.vx_sql_parser.proofs.patterns.respelled.Goals.{then-escaped+else-not-c+in_ok-put, then-is_that, else-is_that+then-c-eq37, else-is_that+else-c-eq37, else-escaped+then-is_that-2, else-escaped+else-is_that-2+in_ok-put-2}

pub loop-c-preserved : goal.loop-c-preserved
loop-c-preserved c =
    let e = c.args.escape in
    let p = c.args.pattern.now in
    let i = c.loop-c.c-index in
    let b = get_or p i 0 in
    let made = c.loop-c.made.items in
    let more = c.if-escaped.made.items in
    let now : Bool → Option (List ℕ) = λ s. patterns.behind more (patterns.respelled e s (drop (i + 1) p)) in
    let was : Bool → Option (List ℕ) = λ s. patterns.behind made (patterns.respelled e s (drop i p)) in
    elim c.if-escaped.branch [
      | then-escaped+else-not-c+in_ok-put w ↦
          let inside : c.loop-c.escaped ≡ true = search rules in
          let may : follows e b ≡ true = elim w.if-is_that.branch [ then-is_that v ↦ search rules | else-is_that+then-c-eq37 v ↦ search rules | else-is_that+else-c-eq37 v ↦ search rules ] in
          let put : more ≡ made ++ patterns.put (patterns.is_sign b) b = search rules in
          ap now w.escaped-is ∙ escaped e p i made more _ (omega arith) may put (ap was (sym inside) ∙ c.loop-c.invariant)
      | else-escaped+then-is_that-2 w ↦
          let outside : c.loop-c.escaped ≡ false = search rules in
          let that : patterns.is_that e b ≡ true = search rules in
          let same : more ≡ made = search rules in
          ap now w.escaped-is ∙ ap (λ xs. patterns.behind xs (patterns.respelled e true (drop (i + 1) p))) same ∙ escape e p i made _ (omega arith) that (ap was (sym outside) ∙ c.loop-c.invariant)
      | else-escaped+else-is_that-2+in_ok-put-2 w ↦
          let outside : c.loop-c.escaped ≡ false = search rules in
          let other : patterns.is_that e b ≡ false = search rules in
          let put : more ≡ made ++ patterns.put (b == 92) b = search rules in
          ap now (w.escaped-is ∙ outside) ∙ plain e p i made more _ (omega arith) other put (ap was (sym outside) ∙ c.loop-c.invariant)
    ]
