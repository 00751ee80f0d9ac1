use Rattle.std.specs.Prelude.{List}
use Rattle.qm_space.specs.Plane.{Plane}
use Rattle.qm_contents.specs.declared.contents.Contents.TheVariants.{Empty}
use Rattle.qm_solids.specs.declared.face.FaceRef.{FaceRef}
use Rattle.qm_solids.specs.Solid.{Solid}
use Rattle.qm_solids.specs.Outward.{outward_planes}

-- the part of space behind these faces; whether it is full does not depend on its contents
abbrev pub solid_behind : List Plane → List FaceRef → Solid
solid_behind planes faces = record { contents = Empty; outward = outward_planes planes faces }
