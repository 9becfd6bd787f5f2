use Rattle.std.proofs.Common.{◌≡◌, ◌++◌, ◌∷◌, [], sym, ap, ◌∙◌, false}
use Rattle.indexmap.specs.IndexMap.{values}
use Rattle.vx_value.specs.Paths.{is_member, path_of}
use Rattle.vx_value.proofs.PathSets.{parts_alike, put_new, agree_push, values_push, add_path-new}
use Rattle.vx_value.proofs.field_path_set.FieldPathSet.insert.Goals as goal

-- the path was no member
none : (c : goal.Joined-branch-3) → is_member (values c.self.inside.paths) c.args.path ≡ false
none c = rw c.self.view_is (ap (is_member c.args.self.now) (sym c.parts.ensures) ∙ sym c.has.ensures ∙ c.if-has.false)

entries : (c : goal.Joined-branch-3) → c.insert.new.self.entries ≡ c.self.inside.paths.entries ++ (c.in_ok-parts.parts, c.args.path) ∷ []
entries c =
    c.in_ok-insert.ensures.entries
    ∙ put_new (λ parts. path_of parts.items) _ (λ k j. parts_alike k.items j.items) c.self.inside.paths c.in_ok-parts.parts c.args.path c.self.invariant c.in_ok-parts.ensures (none c)

pub invariant_of-self-2 : goal.invariant_of-self-2
invariant_of-self-2 c =
    rw (entries c) (agree_push (λ parts. path_of parts.items) c.self.inside.paths.entries c.in_ok-parts.parts c.args.path c.self.invariant c.in_ok-parts.ensures)

pub returns-clause-inserted : goal.returns-clause-inserted
returns-clause-inserted c =
    rw (entries c, values_push, ← c.self.view_is) (sym (add_path-new (values c.self.inside.paths) c.args.path (none c)))
