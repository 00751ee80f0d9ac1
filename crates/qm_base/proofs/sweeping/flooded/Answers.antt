use Rattle.std.proofs.Common.{sym, ap, ◌∙◌, length}
use Rattle.std.proofs.lemmas.List.{with_items_is}
use Rattle.qm_base.proofs.SweepSteps.{lanes_flooded}
use Rattle.qm_base.proofs.sweeping.flooded.Goals as goal

pub returns : goal.returns
returns c =
    let seen = c.flood.new.seen in
    let first = c.in_ok-seen.seen in
    rw (with_items_is first seen (c.flood.auto.seen ∙ ap length c.deref_mut.ensures.value ∙ sym first.ok.0))
    (lanes_flooded c.args.world.now c.args.ways.now c.args.lanes.now c.deref_mut.result.now seen (rw c.deref_mut.ensures.value c.in_ok-seen.ensures) c.flood.ensures)
