use Rattle.std.specs.Prelude.{ℕ, Bool, List, Contains}
use Rattle.qm_space.specs.Point.{Point, IsInCube}
use Rattle.qm_mapfile.specs.declared.entity.MapFile.{MapFile}
use Rattle.qm_drawn.specs.Solids.{entity_solids}
use Rattle.qm_solids.specs.Solid.{Solid}
use Rattle.qm_solids.specs.Holding.{IsInside}
use Rattle.qm_partition.specs.Tree.{Tree}
use Rattle.qm_partition.specs.LeafOfPoint.{leaf_at, IsOffNodePlanes}
use Rattle.qm_segments.specs.Segment.{Segment}
use Rattle.qm_segments.specs.LeafNumber.{IsNumberOf}
use Rattle.qm_outlines.specs.ShownModels.{ShowsModel}
use Rattle.qm_model_layout.specs.BrushModel.{BrushModel}
use Rattle.qm_statement.specs.CompiledMap.{IsLineOfSightIn}

-- What the leaves of a model say of the brushes of its entity, those that are not clip.

-- a point of the cube strictly inside one of them, off the node planes of the world's tree and in a numbered leaf, has that leaf
-- among them
abbrev pub HasLeavesOfPoints : MapFile → Tree → BrushModel → Type 0
HasLeavesOfPoints map world model =
    (solid : Solid) (x : Point) (n : ℕ) → Contains (entity_solids map model.entity) solid → IsInCube x → IsInside solid x →
    IsOffNodePlanes world.planes world.shape x → IsNumberOf world n (leaf_at world.planes world.shape x) → Contains model.leaves n

-- a line of sight of the map that ends strictly inside one of them shows the model
abbrev pub IsShownByLines : MapFile → Tree → List (List Bool) → BrushModel → Type 0
IsShownByLines map world rows model =
    (solid : Solid) (s : Segment) → Contains (entity_solids map model.entity) solid → IsLineOfSightIn map world s → IsInside solid s.to →
    ShowsModel world rows model.leaves s
