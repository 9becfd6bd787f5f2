use Rattle.std.proofs.Common.{[], refl, ap, sym, ◌∙◌, append-nil, rules}
use Rattle.std.proofs.Output.{has_written_append, has_written_of_eq}
use Rattle.vx_fn.specs.Values.{any_text, just}
use Rattle.vx_sql.specs.Patterns.{part_spelled}
use Rattle.vx_sql.proofs.Spelled.{beginning_of, thing_turn}
use Rattle.vx_sql.proofs.patterns.Spelling.write_beginning.Goals as goal

pub loop-c-init : goal.loop-c-init
loop-c-init g c = (c.utf8.text, λ plain. ([], record { wrote = record { parts = []; calls = refl; whole = refl }; plain = plain }, refl))

pub loop-c-preserved : goal.loop-c-preserved
loop-c-preserved g c = (
  search rules,
  λ plain.
      let (done, wrote, left) = c.loop-c.invariant.1 plain in (
        _,
        has_written_append _ _ _ _ _ _ wrote (c.write_part.ensures wrote.plain (search rules)),
        thing_turn (part_spelled c.args.self.dialect c.args.self.ignore_case) c.args.self.quoting done _ _ _ (just c.in-Some.c) (ap beginning_of c.in-Some.ensures) left,
      ),
)

pub returns : goal.returns
returns g c plain ok =
    let (done, wrote, left) = c.loop-c.invariant.1 plain in
    let spell = part_spelled c.args.self.dialect c.args.self.ignore_case in
    let whole = thing_turn spell c.args.self.quoting done _ _ [] any_text (ap beginning_of c.in_default.ensures) left in
    has_written_of_eq _ _ _ _ _ (sym (append-nil _) ∙ whole) (has_written_append _ _ _ _ _ _ wrote (c.write_part-2.ensures wrote.plain ok))
