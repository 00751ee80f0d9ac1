use Rattle.std.proofs.Common.{ap, sym, ◌∙◌}
use Rattle.qm_space.specs.Turned.{turned}
use Rattle.qm_convex.specs.Winding.{Winding}
use Rattle.qm_chains.proofs.Beginnings.{turned_of_portal}
use Rattle.test_worlds.proofs.chains.first_chain.Goals as goal

pub start-requires : goal.start-requires
start-requires c =
    let pane = c.pane.ensures in
    let way = turned_of_portal c.args.world.now c.own_portals.ensures c.args.p pane.0 pane.1 in
    record { side = way.0; into = pane.3 ∙ way.1 ∙ ap (λ (w : Winding). turned way.0 w.plane) (sym pane.2) }
