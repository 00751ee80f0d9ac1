use Rattle.std.specs.Prelude.{Bool, true, false, IsTrue, List, [], ◌∷◌, Option, Some, None}
use Rattle.qm_mapfile.specs.declared.entity.Brush.{Brush}
use Rattle.qm_contents.specs.declared.contents.Contents.{Contents}
use Rattle.qm_contents.specs.declared.contents.Contents.TheVariants.{Solid, Sky}
use Rattle.qm_solids.specs.Solid.{Solid as Part}
use Rattle.qm_solids.specs.Holding.{IsFull}
use Rattle.qm_drawn.specs.Brushes.{contents_of_brush}
use Rattle.qm_drawn.specs.Solids.{filled_with}

-- Which brushes stand in the way of a moving box.

-- clip, which has no contents, solid and sky do
abbrev pub is_in_the_way : Option Contents → Bool
is_in_the_way None = true
is_in_the_way (Some Solid) = true
is_in_the_way (Some Sky) = true
is_in_the_way (Some _) = false

abbrev pub is_blocking : Brush → Bool
is_blocking brush = is_in_the_way (contents_of_brush brush)

-- the part of space that a brush takes, whatever its name
abbrev pub solid_part : Brush → Part
solid_part brush = filled_with brush Solid

-- a brush is an obstacle where it stands in the way and is full
pub record IsObstacle (brush : Brush) : Type 0 where
  pub blocking : IsTrue (is_blocking brush)
  pub full : IsFull (solid_part brush)

-- the obstacles among some brushes, in their order
pub data AreObstacles : List Brush → List Brush → Type 0 where
  none : AreObstacles [] []
  counted : {brush : Brush} {brushes those : List Brush} →
      IsObstacle brush → AreObstacles brushes those → AreObstacles (brush ∷ brushes) (brush ∷ those)
  left_out : {brush : Brush} {brushes those : List Brush} →
      (IsObstacle brush → ⊥) → AreObstacles brushes those → AreObstacles (brush ∷ brushes) those
