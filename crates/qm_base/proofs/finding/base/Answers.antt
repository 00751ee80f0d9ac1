use Rattle.std.proofs.Common.{◌≡◌, ◌∙◌, List, Bool, length, sym, ap, subst, arith}
use Rattle.std.proofs.lemmas.List.{with_items_is}
use Rattle.qm_contacts.specs.NumberedLeaves.{numbered_leaves}
use Rattle.qm_segments.proofs.EndRows.{own_coarse_rows_sound}
use Rattle.qm_base.specs.inner.Ways.{block_of}
use Rattle.qm_base.specs.inner.Blocks.{AreWritten}
use Rattle.qm_base.proofs.RowSteps.{block_more, all_rows, all_wide}
use Rattle.qm_base.proofs.finding.base.Goals as goal

pub loop-block-init : goal.loop-block-init
loop-block-init c =
    let table = c.in_ok-table.table in
    let each = c.in_ok-table.ensures.are_lanes.one_each in
    let count = c.len-count.ensures in
    let fits = table.lanes.ok.0 in
    let rows = c.in_ok-rows.ensures in
    let ways = c.in_ok-ways.ensures.len in
    let ways_fit = c.in_ok-ways.ways.ok.0 in
    record {
      one_each = omega (arith, each, count, fits, rows);
      one_way_each = omega (arith, each, count, fits, ways, ways_fit);
      each = λ k lane less is. absurd (omega (arith, less));
    }

pub loop-block-preserved : goal.loop-block-preserved
loop-block-preserved c =
    let old_ways = c.loop-block.ways in
    let old_rows = c.loop-block.rows in
    let ways = c.add_block.new.ways in
    let rows = c.add_block.new.rows in
    let same_ways : length ways ≡ length old_ways.items = c.add_block.auto.ways ∙ ap length c.deref_mut.ensures.value in
    let same_rows : length rows ≡ length old_rows.items = c.add_block.auto.rows ∙ ap length c.deref_mut-in-loop-block.ensures.value in
    let lanes = c.in_ok-table.table.lanes.items in
    let written : AreWritten c.args.world.now (block_of c.loop-block.block lanes) old_rows.items rows =
    subst (λ (old : List (List Bool)). AreWritten c.args.world.now (block_of c.loop-block.block lanes) old rows) c.deref_mut-in-loop-block.ensures.value c.in_ok-add_block.ensures in
    rw (with_items_is old_ways ways (same_ways ∙ sym old_ways.ok.0), with_items_is old_rows rows (same_rows ∙ sym old_rows.ok.0))
    (block_more c.args.world.now lanes c.loop-block.block old_ways.items ways old_rows.items rows c.loop-block.invariant same_ways written)

pub returns-clause-rows : goal.returns-clause-rows
returns-clause-rows c =
    let lanes = c.in_ok-table.table.lanes in
    rw c.from_vec.ensures (all_rows c.args.world.now lanes.items c.in_ok-table.ensures.are_lanes c.loop-block.block c.loop-block.ways.items c.loop-block.rows.items c.loop-block.invariant
    (let end = c.loop-block-test.false in let blocks = c.div_ceil-block-end.ensures in let count = c.len-count.ensures in let fits = lanes.ok.0 in omega (arith, end, blocks, count, fits)))

pub returns-clause-wide : goal.returns-clause-wide
returns-clause-wide c =
    let lanes = c.in_ok-table.table.lanes in
    rw c.from_vec.ensures (all_wide c.args.world.now lanes.items c.in_ok-table.ensures.are_lanes c.loop-block.block c.loop-block.ways.items c.loop-block.rows.items c.loop-block.invariant
    (let end = c.loop-block-test.false in let blocks = c.div_ceil-block-end.ensures in let count = c.len-count.ensures in let fits = lanes.ok.0 in omega (arith, end, blocks, count, fits)))

pub returns-clause-sound : goal.returns-clause-sound
returns-clause-sound c =
    let lanes = c.in_ok-table.table.lanes in
    let world = c.args.world.now in
    rw c.from_vec.ensures (own_coarse_rows_sound world c.own_portals.ensures (length (numbered_leaves world.tree)) c.loop-block.rows.items
    (all_rows world lanes.items c.in_ok-table.ensures.are_lanes c.loop-block.block c.loop-block.ways.items c.loop-block.rows.items c.loop-block.invariant
    (let end = c.loop-block-test.false in let blocks = c.div_ceil-block-end.ensures in let count = c.len-count.ensures in let fits = lanes.ok.0 in omega (arith, end, blocks, count, fits))))
