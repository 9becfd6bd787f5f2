use Rattle.std.proofs.Common.{rules, ◌≡◌, ◌<◌, ◌≤◌, length, map, ap, sym, ◌∙◌, arith, Err}
use Rattle.std.proofs.lemmas.List.{length-map, same_from_push}
use Rattle.vx_dtype.specs.declared.error.VortexError.TheVariants.{OutOfMemory}
use Rattle.vx_walk.specs.Mapping.{spent}
use Rattle.vx_walk.proofs.Opened.{Opened-no_higher, RowFront-lost, RowFront-unfinished, RowFront-finished}
use Rattle.vx_walk.proofs.Rows.{RowFront-start, RowFront-pushed, RowFront-fail, RowFront-at, RowFront-end, child_is_lower}
use Rattle.vx_walk.proofs.rewrite.+rewrite_children.Goals as goal

pub returns-in_err-siblings-clause-rewritten : goal.returns-in_err-siblings-clause-rewritten
returns-in_err-siblings-clause-rewritten g t c =
    let e : c.from_residual.result ≡ Err OutOfMemory = search rules in
    rw e spent

pub loop-child-init : goal.loop-child-init
loop-child-init g t c =
    let e : length (map g.N.Node.mirror c.children_slice-child-items.result.now) ≡ length (g.N.Node.kids (g.N.Node.mirror c.args.parent.now)) = ap length c.children_slice-child-items.ensures in
    record {
      ready = search rules;
      len = c.in_ok-siblings.ensures.len;
      room = omega (arith, rw length-map at e, c.children_count.ensures, c.in_ok-siblings.ensures.capacity);
      front = rw (c.in_ok-siblings.ensures.items, c.in_ok-siblings.ensures.order, c.in_ok-siblings.ensures.changed) (RowFront-start _ _ _ _);
    }

pub returns-in_err-is_open-clause-rewritten : goal.returns-in_err-is_open-clause-rewritten
returns-in_err-is_open-clause-rewritten g t c =
    let e : c.from_residual-in_err-is_open.result ≡ Err c.in_err-is_open.field-0.0 = search rules in
    let q = RowFront-at _ _ _ _ _ c.loop-child-test.true c.child-item.is c.loop-child.invariant.front in
    rw e (rw c.children_slice-child-items.ensures at (RowFront-fail _ _ q c.in_err-is_open.ensures.begun))

pub loop-child-preserved-then-not-is_open : goal.loop-child-preserved-then-not-is_open
loop-child-preserved-then-not-is_open g t c =
    let q = RowFront-at _ _ _ _ _ c.loop-child-test.true c.child-item.is c.loop-child.invariant.front in
    let k = rw c.if-not-is_open.true at c.in_ok-is_open.ensures.begun in
    record {
      ready = search rules;
      len = omega (arith, c.in_ok-is_open.ensures.len, c.loop-child.invariant.len);
      room = omega (arith, c.in_ok-is_open.ensures.capacity, c.loop-child.invariant.room);
      front = RowFront-pushed _ _ c.loop-child.siblings k.0 q k.1 k.2;
    }

pub rewrite_children-requires : goal.rewrite_children-requires
rewrite_children-requires g t c κs within =
    let k = rw c.if-not-is_open.false at c.in_ok-is_open.ensures.begun in
    let low : g.N.Node.height (g.N.Node.mirror c.child-item.result) < g.N.Node.height (g.N.Node.mirror c.args.parent.now) =
    child_is_lower g.N.Node.mirror g.N.Node.kids g.N.Node.height g.met.N.Node.kids_are_lower _ _ _ _ c.loop-child-test.true c.child-item.is c.children_slice-child-items.ensures in
    let here : g.N.Node.height (g.N.Node.mirror k.0.value) ≤ g.N.Node.height (g.N.Node.mirror c.child-item.result) =
    Opened-no_higher g.N.Node.mirror g.N.Node.height g.R.NodeRewriter.ready g.R.NodeRewriter.down_gives g.met.R.NodeRewriter.no_higher k.0 c.loop-child.invariant.ready k.3 in
    let last : k.0.value ≡ c.last.result.now = (same_from_push _ _ _ _ (sym k.1.items ∙ c.last.ensures.1)).1 in
    let fall : g.N.Node.height (g.N.Node.mirror c.last.result.now) < g.N.Node.height (g.N.Node.mirror c.args.parent.now) = rw (← last) (omega arith) in
    search rules

pub returns-in_err-below-clause-rewritten : goal.returns-in_err-below-clause-rewritten
returns-in_err-below-clause-rewritten g t c =
    let e : c.from_residual-in_err-below.result ≡ Err c.in_err-below.field-0.0 = search rules in
    let q = RowFront-at _ _ _ _ _ c.loop-child-test.true c.child-item.is c.loop-child.invariant.front in
    let k = rw c.if-not-is_open.false at c.in_ok-is_open.ensures.begun in
    rw e (rw c.children_slice-child-items.ensures at (RowFront-lost _ _ _ _ _ c.loop-child.siblings k.0 c.last.ensures.0 c.last.result.now q k.1 k.2 k.3 c.last.ensures.1 c.in_err-below.ensures.rewritten))

pub returns-in_err-finish_child-clause-rewritten : goal.returns-in_err-finish_child-clause-rewritten
returns-in_err-finish_child-clause-rewritten g t c =
    let e : c.from_residual-in_err-finish_child.result ≡ Err c.in_err-finish_child.field-0.0 = search rules in
    let q = RowFront-at _ _ _ _ _ c.loop-child-test.true c.child-item.is c.loop-child.invariant.front in
    let k = rw c.if-not-is_open.false at c.in_ok-is_open.ensures.begun in
    rw e (rw c.children_slice-child-items.ensures at (RowFront-unfinished _ _ _ _ _ c.loop-child.siblings c.in_ok-below.below k.0 c.last.ensures.0 c.last.result.now q k.1 k.2 k.3 c.last.ensures.1 c.in_ok-below.ensures.rewritten c.in_err-finish_child.ensures.finished))

pub loop-child-preserved : goal.loop-child-preserved
loop-child-preserved g t c =
    let q = RowFront-at _ _ _ _ _ c.loop-child-test.true c.child-item.is c.loop-child.invariant.front in
    let k = rw c.if-not-is_open.false at c.in_ok-is_open.ensures.begun in
    record {
      ready = search rules;
      len = omega (arith, c.in_ok-finish_child.ensures.len, c.in_ok-is_open.ensures.len, c.loop-child.invariant.len);
      room = omega (arith, c.in_ok-finish_child.ensures.capacity, c.in_ok-is_open.ensures.capacity, c.loop-child.invariant.room);
      front = RowFront-finished _ _ _ _ _ c.loop-child.siblings c.in_ok-below.below k.0 c.last.ensures.0 c.last.result.now q k.1 k.2 k.3 c.last.ensures.1 c.in_ok-below.ensures.rewritten c.in_ok-finish_child.ensures.finished;
    }

pub returns-clause-rewritten : goal.returns-clause-rewritten
returns-clause-rewritten g t c =
    rw c.children_slice-child-items.ensures at (RowFront-end _ _ _ _ c.loop-child-test.false c.loop-child.invariant.front)
