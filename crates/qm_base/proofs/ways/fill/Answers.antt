use Rattle.std.proofs.Common.{◌∙◌, ◌<◌, List, length, refl, subst, arith}
use Rattle.std.proofs.lemmas.Option.{slice_get_read}
use Rattle.qm_base.specs.declared.table.Kind.{Kind}
use Rattle.qm_base.specs.inner.Runs.{AreRuns}
use Rattle.qm_base.specs.inner.Ways.{block_of}
use Rattle.qm_base.proofs.WaySteps.{ways_more, ways_all, slice_of_block, portal_within}
use Rattle.qm_base.proofs.ways.fill.Goals as goal

pub way-requires-clause-runs : goal.way-requires-clause-runs
way-requires-clause-runs c =
    let kinds = c.args.table.now.kinds.items in
    let part = slice_of_block c.args.block kinds c.len.result c.min.result (c.len.ensures ∙ c.args.table.now.kinds.ok.0) c.min.ensures in
    let runs : AreRuns (block_of c.args.block kinds) c.in_ok-runs.runs.items = subst (λ (list : List Kind). AreRuns list c.in_ok-runs.runs.items) part (rw c.deref.ensures.value at c.in_ok-runs.ensures) in
    rw c.deref-in-loop-k.ensures.value runs

pub offset_bounds-ways-index : goal.offset_bounds-ways-index
offset_bounds-ways-index c =
    let within = portal_within c.args.table.now.lanes.items (length c.args.ways.now) c.requires.portals c.loop-k.k c.index.result.now (let test = c.loop-k-test.true in let count = c.len-k-end.ensures in let fits = c.args.table.now.lanes.ok.0 in omega (arith, test, count, fits)) c.index.ensures in
    omega (arith, within)

pub bounds-ways-index : goal.bounds-ways-index
bounds-ways-index c =
    let within = portal_within c.args.table.now.lanes.items (length c.args.ways.now) c.requires.portals c.loop-k.k c.index.result.now (let test = c.loop-k-test.true in let count = c.len-k-end.ensures in let fits = c.args.table.now.lanes.ok.0 in omega (arith, test, count, fits)) c.index.ensures in
    let same = c.loop-k.auto.ways in
    omega (arith, within, same)

pub loop-k-preserved : goal.loop-k-preserved
loop-k-preserved c =
    let lanes = c.args.table.now.lanes.items in
    let inside : c.loop-k.k < length lanes = let test = c.loop-k-test.true in let count = c.len-k-end.ensures in let fits = c.args.table.now.lanes.ok.0 in omega (arith, test, count, fits) in
    ways_more lanes c.args.table.now.kinds.items c.args.table.now.beside.items c.args.block c.loop-k.k c.loop-k.ways c.way.result c.index.result.now c.loop-k.invariant
    (slice_get_read lanes (length lanes) c.loop-k.k c.index.result.now refl inside c.index.ensures)
    (let within = portal_within lanes (length c.args.ways.now) c.requires.portals c.loop-k.k c.index.result.now inside c.index.ensures in let same = c.loop-k.auto.ways in omega (arith, within, same))
    c.way.ensures

pub returns : goal.returns
returns c =
    ways_all c.args.table.now.lanes.items c.args.table.now.kinds.items c.args.table.now.beside.items c.args.block c.loop-k.k c.loop-k.ways
    (let end = c.loop-k-test.false in let count = c.len-k-end.ensures in let fits = c.args.table.now.lanes.ok.0 in omega (arith, end, count, fits)) c.loop-k.invariant
