use Rattle.std.proofs.Common.{◌≡◌, ◌+◌, ◌<◌, ◌≤◌, ◌++◌, ◌∷◌, [], Some, None, length, drop, ap, ◌∙◌, arith, rules}
use Rattle.vx_sql_parser.specs.SqlTokens.{Taken, taken_at, sql_tokens}
use Rattle.vx_sql_parser.specs.Views.{lexemes_of, sql_of, taken_of}
use Rattle.vx_sql_parser.proofs.TokensFound.{token_more, none_more, lexemes_more}
use Rattle.vx_sql_parser.proofs.lexed.sql_tokens.Goals as goal
use Rattle.vx_sql_parser.proofs.lexed.sql_tokens.Goals.{in-Some+in_ok-push, in_default}

pub loop-at-preserved : goal.loop-at-preserved
loop-at-preserved c =
    let d = c.args.dialect in
    let bs = c.args.text.now in
    let at = c.loop-at.at in
    let len = c.in_ok-token.len in
    let within : at + len ≤ length bs = search rules in
    let forward : 0 < len = search rules in
    let behind = sql_tokens d 0 (drop (at + len) bs) in
    elim c.match-token.branch [
      | in-Some+in_ok-push w ↦
          let x = sql_of w.in-Some.token in
          let is : c.in_ok-token.token ≡ Some w.in-Some.token = search rules in
          let taken : taken_at d (drop at bs) ≡ (let t : Taken = (Some x, drop len (drop at bs)) in t) = c.in_ok-token.ensures.taken ∙ ap (λ o. taken_of (drop at bs) o len) is in
          let more : lexemes_of c.match-token.tokens.items ≡ lexemes_of c.loop-at.tokens.items ++ x ∷ [] = ap lexemes_of (ap (λ v. v.items) w.tokens-is ∙ w.in_ok-push.ensures.items) ∙ lexemes_more c.loop-at.tokens.items _ in
          (within, ap (λ xs. xs ++ behind) more ∙ token_more d bs at len x _ _ (omega arith) forward within taken c.loop-at.invariant.1)
      | in_default w ↦
          let is : c.in_ok-token.token ≡ None = search rules in
          let taken : taken_at d (drop at bs) ≡ (let t : Taken = (None, drop len (drop at bs)) in t) = c.in_ok-token.ensures.taken ∙ ap (λ o. taken_of (drop at bs) o len) is in
          (within, ap (λ v. lexemes_of v.items ++ behind) w.tokens-is ∙ none_more d bs at len _ _ (omega arith) forward within taken c.loop-at.invariant.1)
    ]
