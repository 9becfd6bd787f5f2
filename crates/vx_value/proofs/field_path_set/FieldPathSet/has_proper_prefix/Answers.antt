use Rattle.std.proofs.Common.{◌≡◌, ◌<◌, ◌≤◌, length, sym, ap, ◌∙◌, take, true, false, arith}
use Rattle.std.proofs.lemmas.List.{length-map, take-map}
use borrow.Author.Count.{below_more}
use Rattle.vx_value.specs.Paths.{is_member, part_name, path_of}
use Rattle.vx_value.proofs.PathSets.{some_prefix, no_prefix}
use Rattle.vx_value.proofs.field_path_set.FieldPathSet.has_proper_prefix.Goals as goal

pub returns-then-has : goal.returns-then-has
returns-then-has c =
    let within : c.loop-len.len < length (path_of c.args.parts.now) = simp length-map (omega arith) in
    let member : is_member c.args.self.now (take c.loop-len.len (path_of c.args.parts.now)) ≡ true =
    ap (is_member c.args.self.now) (take-map part_name c.loop-len.len c.args.parts.now) ∙ sym c.has.ensures ∙ c.if-has.true in
    sym (some_prefix c.args.self.now (path_of c.args.parts.now) c.loop-len.len within member)

pub loop-len-preserved : goal.loop-len-preserved
loop-len-preserved c =
    let none : is_member c.args.self.now (take c.loop-len.len (path_of c.args.parts.now)) ≡ false =
    ap (is_member c.args.self.now) (take-map part_name c.loop-len.len c.args.parts.now) ∙ sym c.has.ensures ∙ c.if-has.false in
    below_more (λ k. is_member c.args.self.now (take k (path_of c.args.parts.now)) ≡ false) c.loop-len.len c.loop-len.invariant none

pub returns : goal.returns
returns c =
    let end : length c.args.parts.now ≤ c.loop-len.len = omega arith in
    sym (no_prefix c.args.self.now (path_of c.args.parts.now) (λ k h. let within : k < length c.args.parts.now = simp length-map at h in c.loop-len.invariant k (omega arith)))
