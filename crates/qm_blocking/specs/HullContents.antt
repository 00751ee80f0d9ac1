use Rattle.std.specs.Prelude.{◌≡◌, ◌⊎◌, Contains}
use Rattle.qm_space.specs.Point.{Point}
use Rattle.qm_space.specs.Cuboid.{Cuboid}
use Rattle.qm_mapfile.specs.declared.entity.Brush.{Brush}
use Rattle.qm_mapfile.specs.declared.entity.MapFile.{MapFile}
use Rattle.qm_contents.specs.declared.contents.Contents.{Contents}
use Rattle.qm_contents.specs.declared.contents.Contents.TheVariants.{Empty, Solid}
use Rattle.qm_solids.specs.Holding.{IsInside, IsInFrontOfNone}
use Rattle.qm_drawn.specs.Brushes.{world_brushes}
use Rattle.qm_blocking.specs.Boxes.{IsInBoxAt}
use Rattle.qm_blocking.specs.Blocking.{solid_part, IsObstacle}
use Rattle.qm_blocking.specs.MovedSolids.{moved_part}

-- What a point of a clip hull holds, where a moving box is a single point. No tree occurs here.

-- some obstacle of the world has the point behind or on each of its moved planes
pub record IsBlocked (map : MapFile) (box : Cuboid) (x : Point) : Type 0 where
  pub brush : Brush
  pub listed : Contains (world_brushes map) brush
  pub is_obstacle : IsObstacle brush
  pub not_in_front : IsInFrontOfNone (moved_part box brush).outward x

-- solid where it is blocked, else empty
abbrev pub HasHullContents : MapFile → Cuboid → Point → Contents → Type 0
HasHullContents map box x contents =
    ((contents ≡ Solid) × IsBlocked map box x) ⊎ ((contents ≡ Empty) × (IsBlocked map box x → ⊥))

-- the box set at the point meets an obstacle of the world: some point of it is strictly inside
pub record MeetsBrush (map : MapFile) (box : Cuboid) (x : Point) : Type 0 where
  pub brush : Brush
  pub listed : Contains (world_brushes map) brush
  pub is_obstacle : IsObstacle brush
  pub met : Point
  pub in_box : IsInBoxAt box x met
  pub inside : IsInside (solid_part brush) met
