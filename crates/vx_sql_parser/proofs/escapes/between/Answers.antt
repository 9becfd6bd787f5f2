use Rattle.std.proofs.Common.{◌≡◌, ◌++◌, ◌∷◌, [], get_or, true, arith, rules}
use Rattle.std.specs.Prelude.{◌==◌, ◌||◌}
use Rattle.vx_sql_parser.specs.declared.escapes.Inside.TheVariants.{Anywhere, BehindQuote, BehindBackslash}
use Rattle.vx_sql_parser.proofs.EscapedTexts.{at_quote, at_backslash, at_other, at_second, at_escaped}
use Rattle.vx_sql_parser.proofs.escapes.between.Goals as goal
use Rattle.vx_sql_parser.proofs.escapes.between.Goals.{in-Anywhere+else-not-doubled, in-Anywhere-2, in_default+in_ok-push-in_default, in_default-via-in-Anywhere-2+else-b-eq92, in_default-via-in-BehindQuote+else-b-ne39, in_default-via-in-BehindBackslash+else-not-b}

pub loop-at-preserved : goal.loop-at-preserved
loop-at-preserved c =
    let d = c.args.doubled in
    let bs = c.args.bytes.now in
    let i = c.loop-at.at in
    let b = get_or bs i 0 in
    let made = c.loop-at.made.items in
    let more = c.match-inside.made.items in
    let s = c.loop-at.inside in
    let t = c.match-inside.inside in
    let was = c.loop-at.invariant.1 in
    elim c.match-inside.branch [
      | in-Anywhere+else-not-doubled w ↦
          let from : s ≡ Anywhere = search rules in
          let to : t ≡ BehindQuote = search rules in
          let two : d ≡ true = search rules in
          let quote : b ≡ 39 = search rules in
          let same : more ≡ made = search rules in
          (omega arith, at_quote d bs i made more s t _ (omega arith) two quote from to same was)
      | in-Anywhere-2 w ↦
          let from : s ≡ Anywhere = search rules in
          let to : t ≡ BehindBackslash = search rules in
          let no : ¬ (b ≡ 39) = search rules in
          let backslash : b ≡ 92 = search rules in
          let same : more ≡ made = search rules in
          (omega arith, at_backslash d bs i made more s t _ (omega arith) no backslash from to same was)
      | in_default+in_ok-push-in_default w ↦
          let to : t ≡ Anywhere = search rules in
          let longer : more ≡ made ++ b ∷ [] = search rules in
          elim w.in_default.branch [
            | in_default-via-in-Anywhere-2+else-b-eq92 v ↦
                let from : s ≡ Anywhere = search rules in
                let no : ¬ (b ≡ 39) = search rules in
                let none : ¬ (b ≡ 92) = search rules in
                (omega arith, at_other d bs i made more s t _ (omega arith) no none from to longer was)
            | in_default-via-in-BehindQuote+else-b-ne39 v ↦
                let from : s ≡ BehindQuote = search rules in
                let quote : b ≡ 39 = search rules in
                (omega arith, at_second d bs i made more s t _ (omega arith) quote from to longer was)
            | in_default-via-in-BehindBackslash+else-not-b v ↦
                let from : s ≡ BehindBackslash = search rules in
                let either : (b == 39 || b == 92) ≡ true = search rules in
                (omega arith, at_escaped d bs i made more s t _ (omega arith) either from to longer was)
          ]
    ]
