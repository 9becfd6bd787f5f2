use Rattle.std.proofs.Common.{rules, ◌≡◌, [], ◌∷◌, ◌++◌, length, cond, refl, sym, subst, ap, ◌∙◌}
use Rattle.std.specs.Prelude.{None, Some}
use denote.Ref.{Bor}
use Rattle.vx_tree.specs.Equality.{equal_bound}
use Rattle.vx_tree.specs.Views.{bound_of}
use Rattle.vx_tree.specs.declared.bound.BoundExpression.{BoundExpression}
use Rattle.vx_rewrite_fusing.specs.declared.heads.Firsts.{Firsts}
use Rattle.vx_rewrite_fusing.specs.declared.heads.Heads.{Heads}
use Rattle.vx_rewrite_fusing.specs.Places.{number_at, place_at}
use Rattle.vx_rewrite_fusing.proofs.Heading.{new_keeps, new_number, new_numbered}
use Rattle.vx_rewrite_fusing.proofs.heads.Heads.number.Goals as goal

pub returns-clause-numbered : goal.returns-clause-numbered
returns-clause-numbered c =
    let new : Heads = record { numbers = c.note.new.numbers; firsts = c.push.new.self } in
    let none : Firsts = record { below = None; above = None } in
    let fresh : number_at c.args.self.now c.args.item ≡ None = search rules in
    let more : c.push.new.self.items ≡ c.args.self.now.firsts.items ++ none ∷ [] = search rules in
    let len : c.len-number.result ≡ length c.args.self.now.firsts.items = search rules in
    let noted = subst (λ z. (y : Bor BoundExpression) → place_at c.note.new.numbers (bound_of y.now) ≡ cond (equal_bound (bound_of c.args.item.now) (bound_of y.now)) (Some z) (place_at c.args.self.now.numbers (bound_of y.now))) len c.in_ok-note.ensures in
    new_numbered c.args.self.now new c.args.item none c.requires fresh more refl refl noted

pub returns-clause-number : goal.returns-clause-number
returns-clause-number c =
    let new : Heads = record { numbers = c.note.new.numbers; firsts = c.push.new.self } in
    let none : Firsts = record { below = None; above = None } in
    let fresh : number_at c.args.self.now c.args.item ≡ None = search rules in
    let more : c.push.new.self.items ≡ c.args.self.now.firsts.items ++ none ∷ [] = search rules in
    let len : c.len-number.result ≡ length c.args.self.now.firsts.items = search rules in
    let noted = subst (λ z. (y : Bor BoundExpression) → place_at c.note.new.numbers (bound_of y.now) ≡ cond (equal_bound (bound_of c.args.item.now) (bound_of y.now)) (Some z) (place_at c.args.self.now.numbers (bound_of y.now))) len c.in_ok-note.ensures in
    new_number c.args.self.now new c.args.item none c.requires fresh more refl refl noted ∙ ap Some (sym len)

pub returns-clause-keeps : goal.returns-clause-keeps
returns-clause-keeps c =
    let new : Heads = record { numbers = c.note.new.numbers; firsts = c.push.new.self } in
    let none : Firsts = record { below = None; above = None } in
    let fresh : number_at c.args.self.now c.args.item ≡ None = search rules in
    let more : c.push.new.self.items ≡ c.args.self.now.firsts.items ++ none ∷ [] = search rules in
    let len : c.len-number.result ≡ length c.args.self.now.firsts.items = search rules in
    let noted = subst (λ z. (y : Bor BoundExpression) → place_at c.note.new.numbers (bound_of y.now) ≡ cond (equal_bound (bound_of c.args.item.now) (bound_of y.now)) (Some z) (place_at c.args.self.now.numbers (bound_of y.now))) len c.in_ok-note.ensures in
    new_keeps c.args.self.now new c.args.item none c.requires fresh more refl refl noted
