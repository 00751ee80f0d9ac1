use Rattle.std.proofs.Common.{◌<◌, ℕ, true, false, List, Bool, length, replicate, set, sym, ap, ◌∙◌, subst, arith}
use Rattle.std.proofs.lemmas.List.{length-replicate, length-set}
use Rattle.qm_space.specs.Plane.{Plane}
use Rattle.qm_space.specs.Turned.{turned}
use Rattle.qm_convex.specs.Winding.{Winding}
use Rattle.qm_contacts.specs.NumberedLeaves.{numbered_leaves}
use Rattle.qm_contacts.specs.Portals.{Portal}
use Rattle.qm_contacts.specs.World.{AreLeaving}
use Rattle.qm_separators.specs.ChainState.{first_state}
use Rattle.qm_chains.proofs.Beginnings.{turned_of_portal}
use Rattle.qm_chains.proofs.TriedPortals.{same_portal}
use Rattle.qm_flow.proofs.frame.Frame.first.Goals as goal

pub start-requires : goal.start-requires
start-requires c =
    let pane = c.pane.ensures in
    let way = turned_of_portal c.args.world.now c.requires.own_portals c.args.portal pane.0 pane.1 in
    record { side = way.0; into = pane.3 ∙ way.1 ∙ ap (λ (w : Winding). turned way.0 w.plane) (sym pane.2) }

pub returns : goal.returns
returns c =
    let world = c.args.world.now in
    let leaves = length (numbered_leaves world.tree) in
    let q = c.to-entered.ensures.value in
    let pane = c.pane.ensures in
    let from = c.from.ensures.value in
    let from_is = from.2 ∙ ap (λ (r : Portal). r.from) (same_portal world.portals c.args.portal from.0 q.0 from.1 q.1) in
    let winding_is = pane.2 ∙ ap (λ (r : Portal). r.winding) (same_portal world.portals c.args.portal pane.0 q.0 pane.1 q.1) in
    let into_is = pane.3 ∙ ap (λ (r : Portal). r.into) (same_portal world.portals c.args.portal pane.0 q.0 pane.1 q.1) in
    record {
      first = q.0;
      first_is = q.1;
      from_within = subst (λ (n : ℕ). n < leaves) from_is c.from.ensures.within;
      to_within = subst (λ (n : ℕ). n < leaves) q.2 c.to-entered.ensures.within;
      state_is = c.in_ok-state.ensures ∙ ap (λ (w : Winding). first_state w c.pane.result.now.into) winding_is ∙ ap (λ (h : Plane). first_state q.0.winding h) into_is;
      met_is = c.set-2.ensures ∙ ap (λ (row : List Bool). set row c.to-entered.result true) (c.set.ensures ∙ ap (λ (row : List Bool). set row c.from.result true) (c.in_ok-met.ensures ∙ ap (λ (n : ℕ). replicate n false) c.leaves-2.ensures) ∙ ap (λ (n : ℕ). set (replicate leaves false) n true) from_is) ∙ ap (λ (n : ℕ). set (set (replicate leaves false) q.0.from true) n true) q.2;
      leaving = subst (λ (n : ℕ). AreLeaving world.portals n c.leaving.result.now) q.2 c.leaving.ensures;
      mask_wide = ap length c.in_ok-mask.ensures ∙ length-replicate c.leaves.result false ∙ c.leaves.ensures;
    }

pub from-requires : goal.from-requires
from-requires c = c.requires.portal

pub set-requires : goal.set-requires
set-requires c =
    let within = c.from.ensures.within in
    let wide = ap length c.in_ok-met.ensures ∙ length-replicate c.leaves-2.result false ∙ c.leaves-2.ensures in
    omega (arith, within, wide)

pub set-requires-2 : goal.set-requires-2
set-requires-2 c =
    let within = c.to-entered.ensures.within in
    let wide = ap length c.set.ensures ∙ length-set c.in_ok-met.met c.from.result true ∙ ap length c.in_ok-met.ensures ∙ length-replicate c.leaves-2.result false ∙ c.leaves-2.ensures in
    omega (arith, within, wide)
