use Rattle.std.proofs.Common.{get_or, arith}
use Rattle.std.proofs.lemmas.Option.{slice_get-get_or}
use Rattle.qm_bits.proofs.Rows.{read_word}
use Rattle.qm_base.proofs.SweepSteps.{begun_more, begun_all}
use Rattle.qm_base.proofs.sweeping.begun.Goals as goal

pub loop-j-preserved : goal.loop-j-preserved
loop-j-preserved c =
    let world = c.args.world.now in
    let lanes = c.args.lanes.now in
    let seen = c.loop-j.seen.items in
    let lane = get_or lanes c.loop-j.j c.index-lanes-j.result in
    let value = c.to-leaf.ensures.value in
    let within = c.to-leaf.ensures.within in
    let wide = c.loop-j.invariant.wide in
    let to = value.2 in
    rw (read_word seen c.to-leaf.result c.index_mut.result.now (omega (arith, within, wide)) c.index_mut.ensures.value, value.2)
    (begun_more world lanes c.loop-j.j seen lane value.0 (let few = c.requires.few in let test = c.loop-j-test.true in omega (arith, few, test)) c.loop-j.invariant
    (slice_get-get_or lanes c.loop-j.j c.index-lanes-j.result c.loop-j-test.true) value.1 (omega (arith, within, to)))

pub returns : goal.returns
returns c = begun_all c.args.world.now c.args.lanes.now c.loop-j.j c.loop-j.seen.items c.loop-j-test.false c.loop-j.invariant
