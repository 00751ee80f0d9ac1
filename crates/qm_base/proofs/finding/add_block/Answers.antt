use Rattle.std.proofs.Common.{◌≡◌, ◌∙◌, ◌+◌, ◌-◌, ◌*◌, List, Some, slice_get, take, drop, get_or, sym, ap, subst, arith}
use Rattle.std.proofs.lemmas.Option.{slice_get-get_or, slice_get_within}
use Rattle.qm_base.specs.declared.lane.Lane.{Lane}
use Rattle.qm_base.specs.inner.Ways.{block_of}
use Rattle.qm_base.specs.inner.Sweeping.{AreFlooded, IsColumn}
use Rattle.qm_base.specs.inner.Blocks.{AreWritten}
use Rattle.qm_base.proofs.LaneSteps.{portals_within, lane_at}
use Rattle.qm_base.proofs.WaySteps.{slice_of_block, of_block}
use Rattle.qm_base.proofs.RowSteps.{column_is_row, written_more, written_all}
use Rattle.qm_base.proofs.finding.add_block.Goals as goal

pub fill-requires-clause-portals : goal.fill-requires-clause-portals
fill-requires-clause-portals c k d within =
    let one = portals_within c.args.lane_world.now.world.now.portals c.args.lane_world.now.table.now.lanes.items c.requires.lane_world.table.are_lanes.each k d within in
    let same = c.requires.ways in
    omega (arith, one, same)

pub loop-j-preserved : goal.loop-j-preserved
loop-j-preserved c =
    let world = c.args.lane_world.now.world.now in
    let block = c.args.block in
    let every = c.args.lane_world.now.table.now.lanes.items in
    let lanes : List Lane = take (c.min.result + 64 * block - 64 * block) (drop (64 * block) c.deref.result.now) in
    let part : lanes ≡ block_of block every = rw c.deref.ensures.value (slice_of_block block every c.len.result c.min.result (c.len.ensures ∙ c.args.lane_world.now.table.now.lanes.ok.0) c.min.ensures) in
    let lane = get_or lanes c.loop-j.j c.index-lanes-j.result in
    let lane_is : slice_get lanes c.loop-j.j ≡ Some lane = slice_get-get_or lanes c.loop-j.j c.index-lanes-j.result c.loop-j-test.true in
    let in_block : slice_get (block_of block every) c.loop-j.j ≡ Some lane = ap (λ (l : List Lane). slice_get l c.loop-j.j) (sym part) ∙ lane_is in
    let own = lane_at world.portals every c.requires.lane_world.table.are_lanes.each (64 * block + c.loop-j.j) lane (of_block block every c.loop-j.j lane in_block).1 in
    let within = slice_get_within world.portals lane.portal own.portal own.portal_is in
    let ways = c.fill.new.ways in
    let seen = c.in_ok-seen.seen.items in
    let flooded : AreFlooded world ways (block_of block every) seen = subst (λ (l : List Lane). AreFlooded world ways l seen) part c.in_ok-seen.ensures in
    let column : IsColumn seen c.loop-j.j c.in_ok-rows.field-0 = rw c.deref-in-loop-j.ensures.value at c.in_ok-rows.ensures in
    written_more world lanes c.args.rows.now c.loop-j.j c.loop-j.rows lane c.in_ok-rows.field-0 c.loop-j.invariant lane_is (let same = c.requires.rows in omega (arith, within, same))
    (column_is_row world every c.requires.lane_world.table.are_lanes block ways (c.in_ok-fill.ensures world.portals c.requires.lane_world.table) seen flooded c.loop-j.j lane in_block c.in_ok-rows.field-0 column)

pub returns : goal.returns
returns c =
    let block = c.args.block in
    let every = c.args.lane_world.now.table.now.lanes.items in
    let lanes : List Lane = take (c.min.result + 64 * block - 64 * block) (drop (64 * block) c.deref.result.now) in
    let part : lanes ≡ block_of block every = rw c.deref.ensures.value (slice_of_block block every c.len.result c.min.result (c.len.ensures ∙ c.args.lane_world.now.table.now.lanes.ok.0) c.min.ensures) in
    subst (λ (l : List Lane). AreWritten c.args.lane_world.now.world.now l c.args.rows.now c.loop-j.rows) part (written_all c.args.lane_world.now.world.now lanes c.args.rows.now c.loop-j.j c.loop-j.rows c.loop-j-test.false c.loop-j.invariant)
