-- What a cell has of a plane.
use Rattle.std.proofs.Common.{List}
use Rattle.qm_space.specs.Plane.{Plane}
use Rattle.qm_convex.specs.Winding.{Winding}
use Rattle.qm_convex.specs.Cut.{IsPartWithin, HasNoneWithin}
use Rattle.qm_convex.specs.World.{MissesCube, IsWorldPart}
use Rattle.qm_split.specs.CellFragments.{HasPointOn}
use Rattle.qm_split.specs.inner.Parts.{IsWindingInCell}

-- the part of a plane in the cube, in a cell with a point on the plane
module _ (cell : List Plane) (h : Plane) (has : HasPointOn cell h) where
  pub meets_cube : MissesCube h → ⊥
  meets_cube misses = misses has.point has.in_cube has.on

  module _ (whole : Winding) (part : IsWorldPart whole h) where
    pub some_within : HasNoneWithin whole cell → ⊥
    some_within none = none has.point ((part.points has.point).1 (has.on, has.in_cube)) has.in_cell

    pub section_within : (w : Winding) → IsPartWithin w whole cell → IsWindingInCell cell h w
    section_within w are = record {
      convex = are.convex;
      on = λ x r. ((part.points x).0 ((are.points x).0 r).0).0;
      in_cube = λ x r. ((part.points x).0 ((are.points x).0 r).0).1;
      in_cell = λ x r. ((are.points x).0 r).1;
    }
