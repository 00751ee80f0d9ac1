-- Each step of an open chain leads on or blocks. So all that is asked of steps holds of the step by separators.
use Rattle.std.proofs.Common.{List, Some, refl, ◌⊎◌, inl, inr, ⊎_elim, ◌↔◌}
use Rattle.qm_space.specs.Plane.{Plane, flipped}
use Rattle.qm_convex.specs.Winding.{Winding, IsConvex}
use Rattle.qm_contacts.specs.Portals.{Portal}
use Rattle.qm_segments.specs.Steps.{LeadOnOrBlock}
use Rattle.qm_separators.specs.Separator.{IsSeparatorFrom}
use Rattle.qm_separators.specs.ChainState.{ChainState, IsChainState}
use Rattle.qm_separators.specs.ChainStep.{IsCutByPlanes, StepsTo, Blocks, first_cut, second_cut, third_cut, fourth_cut}
use Rattle.qm_separators.specs.PortalSteps.{BeginsWith, StepsThrough, BlocksAt, AreConvexPortals}
use Rattle.qm_separators.proofs.ListedSeparators.{listed_from_pass}
use Rattle.qm_separators.proofs.Parts.{part_or_none, part_by_listed}
use Rattle.qm_separators.proofs.SameSteps.{leads_or_blocks}
use Rattle.qm_separators.proofs.PortalStepLaws.{open_chain_state, begins_all}

module _ (state : ChainState) (target : Winding) (into : Plane) (valid : IsChainState state) (convex : IsConvex target) where
  abbrev LeadsOrBlocks : Type 0
  LeadsOrBlocks = ((next : ChainState) × StepsTo state target into next) ⊎ Blocks state target into

  -- once both are cut by the turned planes
  after_planes : (near far : Winding) → IsCutByPlanes state target into near far → LeadsOrBlocks
  after_planes near far cut = ⊎_elim
      (λ pass. ⊎_elim
      (λ source. inl (record { source = source.0; into = state.into; pass = Some pass.0 }, record { near = near; far = far; cut = cut; pass = pass.0; pass_is = refl; narrowed = pass.1; source = source.1; into_is = refl }))
      (λ none. inr (fourth_cut cut pass.1 none))
      (part_by_listed near (IsSeparatorFrom state.pass pass.0) cut.near_is.convex (listed_from_pass state.pass pass.0 valid.pass_convex pass.1.convex)))
      (λ none. inr (third_cut cut none))
      (part_by_listed far (IsSeparatorFrom state.pass near) cut.far_is.convex (listed_from_pass state.pass near valid.pass_convex cut.near_is.convex))

  pub leads_on_or_blocks : LeadsOrBlocks
  leads_on_or_blocks = ⊎_elim
      (λ far. ⊎_elim
      (λ near. after_planes near.0 far.0 (record { far_is = far.1; near_is = near.1 }))
      (λ none. inr (second_cut none))
      (part_or_none state.source (flipped into) valid.source_convex))
      (λ none. inr (first_cut none))
      (part_or_none target state.into convex)

  -- a step blocks exactly where it leads to no state
  pub blocks_exactly : Blocks state target into ↔ ((next : ChainState) → StepsTo state target into next → ⊥)
  blocks_exactly = (
    (λ blocks next leads. leads_or_blocks state target into next valid leads blocks),
    (λ none. ⊎_elim (λ leads. absurd (none leads.0 leads.1)) (λ blocks. blocks) leads_on_or_blocks),
  )

pub lead_on_or_block : (portals : List Portal) → AreConvexPortals portals → LeadOnOrBlock BeginsWith StepsThrough BlocksAt portals
lead_on_or_block portals convex = record {
  begin_all = begins_all portals convex;
  go_on = λ p chain state q is_open listed. leads_on_or_blocks state q.winding q.into (open_chain_state portals p chain state is_open) (convex q listed).0;
}
