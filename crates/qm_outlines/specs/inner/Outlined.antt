-- What has been found of some solids: a box that has what they hold, and the leaves that they touch.
use Rattle.std.specs.Prelude.{◌≡◌, ℕ, Bool, List, ◌++◌}
use Rattle.std.specs.Bool.{MatchBool}
use Rattle.qm_space.specs.Plane.{Plane}
use Rattle.qm_space.specs.Cell.{HasPoint}
use Rattle.qm_space.specs.Cuboid.{Cuboid}
use Rattle.qm_solids.specs.Solid.{Solid}
use Rattle.qm_partition.specs.Tree.{Tree}
use Rattle.qm_contacts.specs.Meeting.{leaves_below}
use Rattle.qm_facets.specs.Extent.{HasEachPoint, IsInClosure}
use Rattle.qm_facets.specs.inner.Joined.{IsJoined, no_cuboid}
use Rattle.qm_reach.specs.ReachedLeaves.{AreReached}
use Rattle.qm_outlines.specs.HeldPoints.{IsHeldPoint, HasFull, HasNoFull}
use Rattle.qm_outlines.specs.Outlines.{AreTouchedLeaves}

-- of these solids one is full or none, the box has all that they hold, and the leaves are those that they touch
pub record IsOutlined (tree : Tree) (solids : List Solid) (some : Bool) (box : Cuboid) (touched : List ℕ) : Type 0 where
  pub full : MatchBool some (HasFull solids) (HasNoFull solids)
  pub joined : IsJoined no_cuboid (HasEachPoint (IsHeldPoint solids)) box
  pub touched_are : AreTouchedLeaves tree solids touched

-- a cell with a point adds its closure to the box, and the leaves that it reaches to the others
pub record IsCellAdded (tree : Tree) (cell : List Plane) (old new : Cuboid) (before after : List ℕ) : Type 0 where
  pub some : HasPoint cell
  pub joined : IsJoined old (HasEachPoint (IsInClosure cell)) new
  pub own : List ℕ
  pub reached : AreReached tree.planes cell (leaves_below tree.shape 0) own
  pub added : after ≡ before ++ own

-- a cell without one adds nothing
pub record IsCellLeftOut (cell : List Plane) (old new : Cuboid) (before after : List ℕ) : Type 0 where
  pub never : HasPoint cell → ⊥
  pub same_box : new ≡ old
  pub same_leaves : after ≡ before

-- which of both it was, and whether the cell has a point
abbrev pub IsCellTaken : Tree → List Plane → Bool → Cuboid → Cuboid → List ℕ → List ℕ → Type 0
IsCellTaken tree cell some old new before after = MatchBool some (IsCellAdded tree cell old new before after) (IsCellLeftOut cell old new before after)
