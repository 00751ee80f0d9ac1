-- Worked rows: three rooms in a row. The bound of the first door has the last room, as its coarse row does, and the last room
-- is ahead at the start.
use Rattle.std.proofs.Common.{[], ◌∷◌, refl, arith}
use Rattle.qm_coarse_rows.specs.CoarseRow.{IsInCoarseRow}
use Rattle.qm_coarse_rows.proofs.RoomSamples.{rooms, touchings, portals, out}
use Rattle.qm_segments.specs.Ahead.{IsAhead}
use Rattle.qm_segments.proofs.RoomSights.{sight_row}
use Rattle.qm_segments.proofs.RoomRows.{are_touchings, have_points}
use Rattle.qm_separators.specs.ChainState.{first_state}
use Rattle.qm_separators.specs.PortalSteps.{BeginsWith, MeetsState, IsInChainBound}
use Rattle.qm_separators.proofs.PortalStepLaws.{are_convex, first_is_state}
use Rattle.qm_separators.proofs.ChainLaws.{bound_in_coarse, sight_in_bound, ahead_at_start}

bound_row : IsInChainBound portals out 2
bound_row = sight_in_bound rooms have_points touchings are_touchings out 2 (0, omega arith, refl) sight_row

coarse_by_bound : IsInCoarseRow portals out 2
coarse_by_bound = bound_in_coarse rooms have_points touchings are_touchings out 2 (0, omega arith, refl) bound_row

begun_row : BeginsWith out (first_state out.winding out.into)
begun_row = let its = are_convex rooms touchings are_touchings out (0, omega arith, refl) in record { state_is = refl; valid = first_is_state out its.0 its.1 }

ahead_row : IsAhead MeetsState rooms out (first_state out.winding out.into) 1 (1 ∷ 0 ∷ []) 2
ahead_row = ahead_at_start rooms have_points touchings are_touchings out 2 (first_state out.winding out.into) (0, omega arith, refl) begun_row sight_row
