-- What rows of leaves that hold lines of sight say of models.
use Rattle.std.proofs.Common.{Bool, List, Contains, ℕ}
use Rattle.qm_space.specs.Point.{Point}
use Rattle.qm_contents.specs.declared.contents.Contents.{Contents}
use Rattle.qm_solids.specs.Solid.{Solid}
use Rattle.qm_solids.specs.Holding.{IsInside}
use Rattle.qm_partition.specs.Tree.{Tree}
use Rattle.qm_segments.specs.Segment.{Segment}
use Rattle.qm_segments.specs.Ends.{IsLineOfSight, HoldLinesOfSight}
use Rattle.qm_outlines.specs.ModelLeaves.{AreModelLeaves}
use Rattle.qm_outlines.specs.ShownModels.{ShowsModel}
use Rattle.qm_outlines.proofs.TouchedLeaves.{point_in_leaves}

-- a line of sight that ends strictly inside a solid of a model shows the model
pub line_shows_model : (has : Point → Contents → Type 0) (tree : Tree) (rows : List (List Bool)) (solids : List Solid) (leaves : List ℕ) (s : Segment) (solid : Solid) →
    HoldLinesOfSight has tree rows → IsLineOfSight has tree s → AreModelLeaves tree solids leaves → Contains solids solid → IsInside solid s.to → ShowsModel tree rows leaves s
line_shows_model has tree rows solids leaves s solid hold line are listed inside =
    let ends = (hold s line).there in
    record {
      from = ends.from;
      from_is = ends.from_is;
      leaf = ends.to;
      listed = point_in_leaves tree solids leaves solid s.to ends.to are listed line.generic.to_in_cube inside line.generic.to_off ends.to_is;
      seen = ends.seen;
    }
