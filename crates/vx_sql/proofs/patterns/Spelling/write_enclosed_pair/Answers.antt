use Rattle.std.proofs.Common.{[], ◌∷◌, ap, ◌∙◌, rules}
use Rattle.std.proofs.Output.{has_written_append, has_written_of_eq}
use Rattle.vx_sql.proofs.Spelled.{written, written-enclosed_pair}
use Rattle.vx_sql.proofs.patterns.Spelling.write_enclosed_pair.Goals as goal

pub returns : goal.returns
returns g c plain ok =
    let q = c.args.self.quoting in
    let one = c.write_str.ensures.writes plain (search rules) in
    let two = c.write_inside.ensures one.plain (search rules) in
    let three = c.write_inside-2.ensures two.plain (search rules) in
    let four = c.write_str-2.ensures.writes three.plain ok in
    let whole = written-enclosed_pair q c.args.c c.to_ascii_uppercase.result ∙ ap (λ d. written q (91 ∷ c.args.c ∷ d ∷ 93 ∷ [])) c.to_ascii_uppercase.ensures.value in
    has_written_of_eq _ _ _ _ _ whole (has_written_append _ _ _ _ _ _ (has_written_append _ _ _ _ _ _ (has_written_append _ _ _ _ _ _ one two) three) four)
