use Rattle.std.proofs.Common.{sym, ◌∙◌, ap, arith}
use Rattle.std.specs.Prelude.{Some}
use Rattle.vx_rewrite_standard.proofs.Named.{start, further, no_further, end}
use Rattle.vx_rewrite_standard.proofs.packs.children_named.Goals as goal
use Rattle.vx_rewrite_standard.proofs.packs.children_named.Goals.{in-Some+in_ok-clone+in_ok-push, in_default}
use Rattle.vx_tree.specs.Views.{bounds_of}

pub loop-name-init : goal.loop-name-init
loop-name-init c = start c.args.wanted.now c.args.names.now (bounds_of c.args.children.now) c.in_ok-kept.kept.items c.in_ok-kept.ensures.items

pub loop-name-preserved : goal.loop-name-preserved
loop-name-preserved c =
    let xs = bounds_of c.args.children.now in
    elim c.match-child_named.branch [
      | in-Some+in_ok-clone+in_ok-push w ↦
          rw w.kept-is
          (further c.args.wanted.now c.args.names.now xs c.loop-name.kept.items w.push.new.self.items c.loop-name.name-index c.name-item.result w.in_ok-clone.field-0 _
          (omega arith) c.name-item.is (sym w.in-Some.ensures ∙ ap Some (sym w.in_ok-clone.ensures.cases)) w.in_ok-push.ensures.items c.loop-name.invariant)
      | in_default w ↦
          rw w.kept-is
          (no_further c.args.wanted.now c.args.names.now xs _ c.loop-name.name-index c.name-item.result _ (omega arith) c.name-item.is (sym w.in_default.ensures) c.loop-name.invariant)
    ]

pub returns : goal.returns
returns c = end c.args.wanted.now c.args.names.now (bounds_of c.args.children.now) c.loop-name.kept.items c.loop-name.name-index c.loop-name-test.false c.loop-name.invariant
