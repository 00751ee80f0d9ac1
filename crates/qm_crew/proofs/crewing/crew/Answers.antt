use Rattle.std.proofs.Common.{subst}
use Rattle.qm_contacts.specs.World.{World}
use Rattle.qm_board.specs.Closed.{AreClosedRows}
use Rattle.qm_board.specs.PassOf.{findings_of}
use Rattle.qm_crew.proofs.CrewRows.{coarse_of_world, coarse_along, closed_long, finished_reuse, finished_bounds}
use Rattle.qm_crew.proofs.crewing.crew.Goals as goal

pub new-requires : goal.new-requires
new-requires g c = coarse_of_world c.args.world.now c.args.coarse c.own_portals.ensures c.requires.coarse

pub work-requires-clause-pass : goal.work-requires-clause-pass
work-requires-clause-pass g c κs within = let opened = c.in_ok-board.ensures in record { same_world = opened.same_world; ours = opened.pass_is }

pub work-requires-clause-along : goal.work-requires-clause-along
work-requires-clause-along g c κs within =
    let opened = c.in_ok-board.ensures in
    coarse_along c.args.world.now c.args.coarse opened.given (findings_of c.in_ok-board.pass) c.requires.coarse opened.found opened.are_words

pub returns : goal.returns
returns g c =
    let world = c.args.world.now in
    let opened = c.in_ok-board.ensures in
    let found = findings_of c.in_ok-pass.field-0.pass in
    let rows = c.in_ok-rows.rows in
    let turns = c.in_ok-pass.field-0.turns in
    let finished = c.in_ok-pass.ensures.finished in
    let closed = subst (λ (w : World). AreClosedRows w found rows) opened.same_world c.in_ok-rows.ensures.rows in
    record {
      one_each = closed_long world found rows closed;
      wide = closed.are_rows.wide;
      sound = closed.are_rows.sound;
      bounds = finished_bounds world found rows closed c.args.workers turns finished;
      turns = finished.are_turns;
      reuse = finished_reuse world found rows closed c.args.workers turns finished;
      alone = finished.alone;
    }
