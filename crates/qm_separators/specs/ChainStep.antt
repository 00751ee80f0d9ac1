use Rattle.std.specs.Prelude.{◌≡◌, Some}
use Rattle.qm_space.specs.Plane.{Plane, flipped}
use Rattle.qm_convex.specs.Winding.{Winding}
use Rattle.qm_convex.specs.Sides.{HasNoneInFront}
use Rattle.qm_convex.specs.Cut.{IsPartInFront}
use Rattle.qm_separators.specs.Separator.{IsSeparatorFrom}
use Rattle.qm_separators.specs.Part.{IsPartBy, HasNoPartBy}
use Rattle.qm_separators.specs.ChainState.{ChainState}

-- A step of a chain to a portal, given by its winding and its turned plane. It makes four cuts, one after another; each takes
-- what those before it have left.

-- the first two: the first leaves of the portal what is in front of the source's turned plane, which is far, and the second
-- leaves of the source what is behind the portal's, which is near
pub record IsCutByPlanes (state : ChainState) (target : Winding) (into : Plane) (near far : Winding) : Type 0 where
  pub far_is : IsPartInFront far target state.into
  pub near_is : IsPartInFront near state.source (flipped into)

-- the third leaves of far the new pass: what is in front of the separators of near and the old pass
abbrev pub IsCutToPass : ChainState → Winding → Winding → Winding → Type 0
IsCutToPass state near far pass = IsPartBy pass far (IsSeparatorFrom state.pass near)

-- the fourth leaves of near the new source: what is in front of the separators of the new pass and the old one
abbrev pub IsCutToSource : ChainState → Winding → Winding → Winding → Type 0
IsCutToSource state near pass source = IsPartBy source near (IsSeparatorFrom state.pass pass)

-- the step leads to the state: each cut leaves something
pub record StepsTo (state : ChainState) (target : Winding) (into : Plane) (next : ChainState) : Type 0 where
  pub near : Winding
  pub far : Winding
  pub cut : IsCutByPlanes state target into near far
  pub pass : Winding
  pub pass_is : next.pass ≡ Some pass
  pub narrowed : IsCutToPass state near far pass
  pub source : IsCutToSource state near pass next.source
  pub into_is : next.into ≡ state.into

-- the step blocks: one of the cuts leaves nothing
pub data Blocks (state : ChainState) (target : Winding) (into : Plane) : Type 0 where
  first_cut : HasNoneInFront target state.into → Blocks state target into
  second_cut : HasNoneInFront state.source (flipped into) → Blocks state target into
  third_cut : {near far : Winding} → IsCutByPlanes state target into near far → HasNoPartBy far (IsSeparatorFrom state.pass near) → Blocks state target into
  fourth_cut : {near far pass : Winding} → IsCutByPlanes state target into near far → IsCutToPass state near far pass → HasNoPartBy near (IsSeparatorFrom state.pass pass) → Blocks state target into
