use Rattle.std.proofs.Common.{sym, subst}
use Rattle.qm_convex.specs.Winding.{Winding}
use Rattle.qm_separators.specs.ChainState.{IsChainState, first_state}
use Rattle.qm_separators.proofs.Parts.{lies_in_turned}
use Rattle.qm_narrow.proofs.chain_state.ChainState.start.Goals as goal

pub of-requires : goal.of-requires
of-requires c =
    subst (λ (v : Winding). IsChainState (first_state v c.args.pane.now.into)) (sym c.in_ok-source.ensures)
    (record { source_convex = c.len-corners.ensures.in_world.convex; source_lies = lies_in_turned c.args.pane.now.winding c.requires.side c.args.pane.now.into c.requires.into; pass_convex = tt })
